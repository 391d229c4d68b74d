-- Exactness: what the lines come to is what the text declares, or the first line that no header has
-- there.
use Rattle.std.proofs.Common.{◌≡◌, ℕ, zero, suc, ◌+◌, ◌≤◌, ◌<◌, List, [], ◌∷◌, ◌++◌, length, take, append_assoc, Option, Some, None, Result, Ok, Err, refl, sym, ap, subst, ◌∙◌, inl, inr, arith}
use Rattle.std.specs.Prelude.{codes, ◌⊎◌, IfOk, IfErr}
use Rattle.std.specs.List.{flat_map}
use Rattle.std.specs.Option.{option_map_or}
use Rattle.std.proofs.lemmas.Option.{none-some, same_Some}
use Rattle.line_words.specs.Words.{Each, Word, ◌>>=◌}
use Rattle.line_words.proofs.Choices.{bound}
use Rattle.header_model.specs.declared.decls.Decl.{Decl}
use Rattle.header_model.specs.declared.lines.Line.{Line}
use Rattle.header_model.specs.declared.lines.Line.TheVariants.{Public, Close}
use Rattle.header_model.specs.declared.states.State.{State}
use Rattle.header_model.specs.declared.states.State.TheVariants.{Between, Begun, Inside}
use Rattle.header_model.specs.Declares.{Declares, step, steps}
use Rattle.header_model.specs.Lines.{IsLine, lines_of}
use Rattle.header_model.proofs.Lacking.{form_lacks}
use Rattle.header_reader.specs.Reading.{Comes, finish, line_of, outcome}
use Rattle.header_reader.specs.declared.error.HeaderReadError.{HeaderReadError}
use Rattle.header_reader.specs.declared.error.HeaderReadError.TheVariants.{At, Memory}
use Rattle.header_reader.specs.Refused.{AreBegun, Blames, IsRefused}
use Rattle.header_reader.proofs.LineForms.{line_read, line_spelled}
use Rattle.header_model.proofs.TextLines.{lines_first, no_lines}

-- ---- lines that lead from one state to another

abbrev Leads : State → List Word → State → Type 0
Leads from ws to = (said : List Line) × Each IsLine ws said × (steps from said ≡ Some to)

record Starts (from : State) (w : Word) (ws : List Word) (to : State) : Type 0 where
  line : Line
  next : State
  is : IsLine w line
  stepped : step from line ≡ Some next
  later : Leads next ws to

by_step : (o : Option State) (said : List Line) (to : State) → option_map_or (λ next. steps next said) o None ≡ Some to → (next : State) × (o ≡ Some next) × (steps next said ≡ Some to)
by_step None said to h = absurd (none-some to h)
by_step (Some next) said to h = (next, refl, h)

leads_start : (from : State) (w : Word) (ws : List Word) (to : State) → Leads from (w ∷ ws) to → Starts from w ws to
leads_start from w ws to ([], each, h) = absurd each
leads_start from w ws to (line ∷ said, each, h) =
    let next = by_step (step from line) said to h in record { line = line; next = next.0; is = each.0; stepped = next.1; later = (said, each.1, next.2) }

leads_put : (from : State) (w : Word) (ws : List Word) (to : State) (line : Line) (next : State) → IsLine w line → step from line ≡ Some next → Leads next ws to → Leads from (w ∷ ws) to
leads_put from w ws to line next is stepped (said, each, h) = (line ∷ said, (is, each), rw stepped h)

leads_none : (from : State) → Leads from [] from
leads_none from = ([], refl, refl)

leads_same : (from to : State) → Leads from [] to → from ≡ to
leads_same from to ([], each, h) = same_Some from to h
leads_same from to (line ∷ said, each, h) = absurd (cons-nil line said each)
  where
    cons-nil : (line : Line) (said : List Line) → line ∷ said ≡ [] → ⊥
    cons-nil line said e = cc

leads_join : (from mid to : State) (ws vs : List Word) → Leads from ws mid → Leads mid vs to → Leads from (ws ++ vs) to
leads_join from mid to [] vs one two = subst (λ s. Leads s vs to) (sym (leads_same from mid one)) two
leads_join from mid to (w ∷ ws) vs one two =
    let start = leads_start from w ws mid one in
    leads_put from w (ws ++ vs) to start.line start.next start.is start.stepped (leads_join start.next mid to ws vs start.later two)

-- the first of them lead somewhere
leads_front : (from to : State) (ws vs : List Word) → Leads from (ws ++ vs) to → (mid : State) × Leads from ws mid
leads_front from to [] vs h = (from, leads_none from)
leads_front from to (w ∷ ws) vs h =
    let start = leads_start from w (ws ++ vs) to h in
    let more = leads_front start.next to ws vs start.later in
    (more.0, leads_put from w ws more.0 start.line start.next start.is start.stepped more.1)

leads_less : (n m : ℕ) (from to : State) (ws : List Word) → n ≤ m → Leads from (take m ws) to → (mid : State) × Leads from (take n ws) mid
leads_less zero m from to ws least h = (from, leads_none from)
leads_less (suc n) zero from to ws least h = absurd (omega (arith, least))
leads_less (suc n) (suc m) from to [] least h = (to, h)
leads_less (suc n) (suc m) from to (w ∷ ws) least h =
    let start = leads_start from w (take m ws) to h in
    let more = leads_less n m start.next to ws (omega (arith, least)) start.later in
    (more.0, leads_put from w (take n ws) more.0 start.line start.next start.is start.stepped more.1)

-- ---- each state can come to its end

public : IsLine (codes " public:" ++ 10 ∷ []) Public
public = (codes " public:", refl, refl)

close : IsLine (codes "};" ++ 10 ∷ []) Close
close = (codes "};", refl, refl)

record Ends (state : State) : Type 0 where
  more : List Word
  decls : List Decl
  leads : Leads state more (Between decls)

ends : (state : State) → Ends state
ends (Between decls) = record { more = []; decls = decls; leads = leads_none (Between decls) }
ends (Begun decls decl) = record {
  more = (codes " public:" ++ 10 ∷ []) ∷ (codes "};" ++ 10 ∷ []) ∷ [];
  decls = decls ++ decl ∷ [];
  leads = (Public ∷ Close ∷ [], (public, (close, refl)), refl);
}
ends (Inside decls decl) = record {
  more = (codes "};" ++ 10 ∷ []) ∷ [];
  decls = decls ++ decl ∷ [];
  leads = (Close ∷ [], (close, refl), refl);
}

-- ---- lines that begin a header

-- lines, one behind the other, are the lines of their text
lines_joined : (ws : List Word) (said : List Line) → Each IsLine ws said → lines_of (flat_map (λ w. w) ws) ≡ ws
lines_joined [] said each = no_lines
lines_joined (w ∷ ws) [] each = absurd each
lines_joined (w ∷ ws) (line ∷ said) ((text, is, form), each) =
    let rest = flat_map (λ (w : Word). w) ws in
    let spelled : w ++ rest ≡ text ++ 10 ∷ rest = ap (λ v. v ++ rest) is ∙ append_assoc text (10 ∷ []) rest in
    ap lines_of spelled ∙ (lines_first text rest (form_lacks text line form) ∙ (ap (λ v. v ∷ lines_of rest) (sym is) ∙ ap (λ vs. w ∷ vs) (lines_joined ws said each)))

leads_begun : (ws : List Word) (state : State) → Leads (Between []) ws state → AreBegun ws
leads_begun ws state h =
    let end = ends state in
    let all = leads_join (Between []) state (Between end.decls) ws end.more h end.leads in
    let same : lines_of (flat_map (λ w. w) (ws ++ end.more)) ≡ ws ++ end.more = lines_joined (ws ++ end.more) all.0 all.1 in
    (flat_map (λ w. w) (ws ++ end.more), end.decls, end.more, same, subst (λ vs. Leads (Between []) vs (Between end.decls)) (sym same) all)

begun_leads : (ws : List Word) → AreBegun ws → (state : State) × Leads (Between []) ws state
begun_leads ws (text, decls, more, is, declared) =
    leads_front (Between []) (Between decls) ws more (subst (λ vs. Leads (Between []) vs (Between decls)) is declared)

-- ---- what the lines come to

taken : (from : State) (w : Word) → (o : Option State) → (line_of w >>= step from) ≡ o → (next : State) → o ≡ Some next → (line : Line) × IsLine w line × (step from line ≡ Some next)
taken from w o is next some =
    let line = bound (line_of w) (step from) next (is ∙ some) in (line.0, line_read w line.0 line.1, line.2)

not_taken : (from : State) (w : Word) (ws : List Word) (to : State) → (line_of w >>= step from) ≡ None → Leads from (w ∷ ws) to → ⊥
not_taken from w ws to none h =
    let start = leads_start from w ws to h in
    none-some start.next (sym none ∙ (ap (λ o. o >>= step from) (line_spelled w start.line start.is) ∙ start.stepped))

finished : (state : State) (number : ℕ) (decls : List Decl) → finish state number ≡ Ok decls → state ≡ Between decls
finished (Between all) number decls h = cc
finished (Begun all decl) number decls h = absurd cc
finished (Inside all decl) number decls h = absurd cc

pub read_leads : (from : State) (number : ℕ) (ws : List Word) (decls : List Decl) → outcome from number ws ≡ Ok decls → Leads from ws (Between decls)
read_leads from number [] decls h = subst (λ s. Leads from [] s) (finished from number decls h) (leads_none from)
read_leads from number (w ∷ ws) decls h = by_line (line_of w >>= step from) refl h (λ next. read_leads next (number + 1) ws decls)
  where
    by_line : (o : Option State) → (line_of w >>= step from) ≡ o → option_map_or (λ next. outcome next (number + 1) ws) o (Err number) ≡ Ok decls
        → ((next : State) → outcome next (number + 1) ws ≡ Ok decls → Leads next ws (Between decls)) → Leads from (w ∷ ws) (Between decls)
    by_line None is h later = absurd cc
    by_line (Some next) is h later = let line = taken from w (Some next) is next refl in leads_put from w ws (Between decls) line.0 next line.1 line.2 (later next h)

pub leads_read : (from : State) (number : ℕ) (ws : List Word) (decls : List Decl) → Leads from ws (Between decls) → outcome from number ws ≡ Ok decls
leads_read from number [] decls h = rw (leads_same from (Between decls) h) refl
leads_read from number (w ∷ ws) decls h =
    let start = leads_start from w ws (Between decls) h in
    rw (line_spelled w start.line start.is, start.stepped) (leads_read start.next (number + 1) ws decls start.later)

-- how many lines are behind one another, and that not one more is
record Stops (from : State) (number : ℕ) (ws : List Word) (at : ℕ) : Type 0 where
  many : ℕ
  state : State
  counted : at ≡ number + many
  within : many ≤ length ws
  leads : Leads from (take many ws) state
  none : (decls : List Decl) → Leads from ws (Between decls) → ⊥
  last : many < length ws → (to : State) → Leads from (take (suc many) ws) to → ⊥

unfinished : (state : State) (number at : ℕ) → finish state number ≡ Err at → (at ≡ number) × ((decls : List Decl) → state ≡ Between decls → ⊥)
unfinished (Between all) number at h = absurd cc
unfinished (Begun all decl) number at h = (cc, λ decls e. cc)
unfinished (Inside all decl) number at h = (cc, λ decls e. cc)

stops : (from : State) (number : ℕ) (ws : List Word) (at : ℕ) → outcome from number ws ≡ Err at → Stops from number ws at
stops from number [] at h =
    let end = unfinished from number at h in
    record {
      many = 0;
      state = from;
      counted = omega (arith, end.0);
      within = omega arith;
      leads = leads_none from;
      none = λ decls l. end.1 decls (leads_same from (Between decls) l);
      last = λ less to l. absurd (omega (arith, less));
    }
stops from number (w ∷ ws) at h = by_line (line_of w >>= step from) refl h (λ next. stops next (number + 1) ws at)
  where
    by_line : (o : Option State) → (line_of w >>= step from) ≡ o → option_map_or (λ next. outcome next (number + 1) ws) o (Err number) ≡ Err at
        → ((next : State) → outcome next (number + 1) ws ≡ Err at → Stops next (number + 1) ws at) → Stops from number (w ∷ ws) at
    by_line None is h later = record {
      many = 0;
      state = from;
      counted = omega (arith, same_err number at h);
      within = omega arith;
      leads = leads_none from;
      none = λ decls l. not_taken from w ws (Between decls) is l;
      last = λ less to l. not_taken from w [] to is l;
    }
      where
        same_err : (n m : ℕ) → ◌≡◌ {A = Result (List Decl) ℕ} (Err n) (Err m) → n ≡ m
        same_err n m e = cc
    by_line (Some next) is h later =
        let line = taken from w (Some next) is next refl in
        let rest = later next h in
        record {
          many = suc rest.many;
          state = rest.state;
          counted = omega (arith, rest.counted);
          within = omega (arith, rest.within);
          leads = leads_put from w (take rest.many ws) rest.state line.0 next line.1 line.2 rest.leads;
          none = λ decls l. rest.none decls (after_it next line.0 line.1 line.2 ws (Between decls) l);
          last = λ less to l. rest.last (omega (arith, less)) to (after_it next line.0 line.1 line.2 (take (suc rest.many) ws) to l);
        }
      where
        after_it : (next : State) (line : Line) → IsLine w line → step from line ≡ Some next → (vs : List Word) (to : State) → Leads from (w ∷ vs) to → Leads next vs to
        after_it next line is stepped vs to l =
            let start = leads_start from w vs to l in
            let same_line : start.line ≡ line = same_Some start.line line (sym (line_spelled w start.line start.is) ∙ line_spelled w line is) in
            let same : start.next ≡ next = same_Some start.next next (sym start.stepped ∙ (ap (step from) same_line ∙ stepped)) in
            subst (λ s. Leads s vs to) same start.later

-- ---- what the public clauses cite

pub declared : (text : List ℕ) (decls : List Decl) → outcome (Between []) 1 (lines_of text) ≡ Ok decls → Declares text decls
declared text decls h = read_leads (Between []) 1 (lines_of text) decls h

pub declared_only : (text : List ℕ) (decls : List Decl) → Declares text decls → outcome (Between []) 1 (lines_of text) ≡ Ok decls
declared_only text decls h = leads_read (Between []) 1 (lines_of text) decls h

pub refused : (text : List ℕ) (line : ℕ) → outcome (Between []) 1 (lines_of text) ≡ Err line → IsRefused text line
refused text line h =
    let stop = stops (Between []) 1 (lines_of text) line h in
    record {
      none = stop.none;
      within = (omega (arith, stop.counted), omega (arith, stop.counted, stop.within));
      earlier = λ n less. let less_lines = leads_less n stop.many (Between []) stop.state (lines_of text) (omega (arith, stop.counted, less)) stop.leads in
          leads_begun (take n (lines_of text)) less_lines.0 less_lines.1;
      here = λ inside begun. let up_to = begun_leads (take line (lines_of text)) begun in
          let counted : line ≡ suc stop.many = omega (arith, stop.counted) in
          stop.last (omega (arith, counted, inside)) up_to.0 (subst (λ n. Leads (Between []) (take n (lines_of text)) up_to.0) counted up_to.1);
    }

pub comes_declared : (text : List ℕ) (result : Result (List Decl) HeaderReadError) → Comes result (outcome (Between []) 1 (lines_of text)) → IfOk result (λ decls. Declares text decls)
comes_declared text (Ok decls) h = declared text decls h
comes_declared text (Err e) h = tt

pub comes_only : (text : List ℕ) (result : Result (List Decl) HeaderReadError) → Comes result (outcome (Between []) 1 (lines_of text))
    → (decls : List Decl) → Declares text decls → (result ≡ Ok decls) ⊎ (result ≡ Err Memory)
comes_only text (Ok all) h decls is = inl (same_ok all decls (sym h ∙ declared_only text decls is))
  where
    same_ok : (a b : List Decl) → ◌≡◌ {A = Result (List Decl) ℕ} (Ok a) (Ok b) → ◌≡◌ {A = Result (List Decl) HeaderReadError} (Ok a) (Ok b)
    same_ok a b e = cc
comes_only text (Err (At line)) h decls is = absurd (apart decls line (sym (declared_only text decls is) ∙ h))
  where
    apart : (a : List Decl) (n : ℕ) → ◌≡◌ {A = Result (List Decl) ℕ} (Ok a) (Err n) → ⊥
    apart a n e = cc
comes_only text (Err Memory) h decls is = inr refl

pub comes_blamed : (text : List ℕ) (result : Result (List Decl) HeaderReadError) → Comes result (outcome (Between []) 1 (lines_of text)) → IfErr result (Blames text)
comes_blamed text (Ok decls) h = tt
comes_blamed text (Err (At line)) h = refused text line h
comes_blamed text (Err Memory) h = tt

-- ---- the laws of texts

pub declares_once : (text : List ℕ) (a b : List Decl) → Declares text a → Declares text b → a ≡ b
declares_once text a b h k = same_ok a b (sym (declared_only text a h) ∙ declared_only text b k)
  where
    same_ok : (a b : List Decl) → ◌≡◌ {A = Result (List Decl) ℕ} (Ok a) (Ok b) → a ≡ b
    same_ok a b e = cc

not_below : (text : List ℕ) (a b : ℕ) → IsRefused text a → IsRefused text b → a < b → ⊥
not_below text a b h k less = h.here (omega (arith, k.within.1, less)) (k.earlier a less)

pub refused_once : (text : List ℕ) (a b : ℕ) → IsRefused text a → IsRefused text b → a ≡ b
refused_once text a b h k = grind (arith, not_below text a b h k, not_below text b a k h)

pub declared_or_refused : (text : List ℕ) → ((decls : List Decl) × Declares text decls) ⊎ ((line : ℕ) × IsRefused text line)
declared_or_refused text = by_outcome (outcome (Between []) 1 (lines_of text)) refl
  where
    by_outcome : (o : Result (List Decl) ℕ) → outcome (Between []) 1 (lines_of text) ≡ o → ((decls : List Decl) × Declares text decls) ⊎ ((line : ℕ) × IsRefused text line)
    by_outcome (Ok decls) is = inl (decls, declared text decls is)
    by_outcome (Err line) is = inr (line, refused text line is)
