-- One text written after another.
use Rattle.std.proofs.Common.{◌≡◌, ℕ, ◌+◌, ◌<◌, List, [], ◌++◌, Option, Some, Result, Ok, Err, IsErrAnd, length, take, refl, sym, ap, subst, ◌∙◌, inl, inr, arith, append_assoc, length-append}
use Rattle.std.proofs.Math.Seq.{take-append-add}
use Rattle.std.proofs.lemmas.List.{append-nil, take-append-le}
use Rattle.std.proofs.lemmas.Bool.{cases_lt}
use Rattle.xp_base.proofs.Gains.{gained_both}
use Rattle.xp_base.specs.Causes.{Rose}
use Rattle.xp_base.specs.Written.{Gained, GainedPrefix}
use Rattle.xp_base.specs.declared.run_faults.RunFault.{RunFault}
use Rattle.dump_text.specs.Writes.{Writes}

-- a count that rose is blamed on the sink, so it did not rise where all was written
same_count : {T : Type 0} (value : T) (before after : Option (List ℕ)) (faults counted : ℕ) (text : List ℕ) → Writes before after faults counted text (Ok value) → counted ≡ faults
same_count value before after faults counted text whole =
    elim (cases_lt faults counted) [ inl rose ↦ (let blamed = whole.blamed rose in cc) | inr same ↦ omega (arith, same, whole.never_falls) ]

-- a text, and then a part of the next, is a part of both
part_of_both : (before between after : Option (List ℕ)) (text more : List ℕ) → Gained before between text → GainedPrefix between after more → GainedPrefix before after (text ++ more)
part_of_both before between after text more gained part =
    (length text + part.0, omega (arith, part.1, length-append text more), subst (Gained before after) (sym (take-append-add text more part.0)) (gained_both before between after text (take part.0 more) gained part.2))

-- a part of a text is a part of a longer one
part_of_more : (before after : Option (List ℕ)) (text more : List ℕ) → GainedPrefix before after text → GainedPrefix before after (text ++ more)
part_of_more before after text more part =
    (part.0, omega (arith, part.1, length-append text more), subst (Gained before after) (sym (take-append-le part.0 text more part.1)) part.2)

-- a text was written whole
whole_then : {T : Type 0} (before between after : Option (List ℕ)) (faults counted risen : ℕ) (text more : List ℕ) (answer : Result T RunFault)
    → Gained before between text → counted ≡ faults → Writes between after counted risen more answer → Writes before after faults risen (text ++ more) answer
whole_then before between after faults counted risen text more (Ok value) first same second = record {
  ok = gained_both before between after text more first second.ok;
  err = tt;
  cause = λ is. subst (λ count. Rose count risen) same (second.cause is);
  blamed = λ rose. second.blamed (subst (λ count. count < risen) (sym same) rose);
  never_falls = omega (arith, same, second.never_falls);
}
whole_then before between after faults counted risen text more (Err fault) first same second = record {
  ok = tt;
  err = part_of_both before between after text more first second.err;
  cause = λ is. subst (λ count. Rose count risen) same (second.cause is);
  blamed = λ rose. second.blamed (subst (λ count. count < risen) (sym same) rose);
  never_falls = omega (arith, same, second.never_falls);
}

-- what follows a text that was cut short is not written
cut_then : {T : Type 0} (before after : Option (List ℕ)) (faults counted : ℕ) (text more : List ℕ) (fault : RunFault)
    → Writes {T = T} before after faults counted text (Err fault) → Writes {T = T} before after faults counted (text ++ more) (Err fault)
cut_then before after faults counted text more fault cut = record {
  ok = tt;
  err = part_of_more before after text more cut.err;
  cause = cut.cause;
  blamed = cut.blamed;
  never_falls = cut.never_falls;
}

-- of a whole text a part was written, and a part is left
pub record Underway (before now : Option (List ℕ)) (faults counted : ℕ) (left whole : List ℕ) : Type 0 where
  pub done : List ℕ
  pub written : Gained before now done
  pub same : counted ≡ faults
  pub rest : done ++ left ≡ whole

pub begun : (written : Option (List ℕ)) (faults : ℕ) (left whole : List ℕ) → left ≡ whole → Underway written written faults faults left whole
begun written faults left whole is = record {
  done = [];
  written = λ told known. known ∙ ap Some (sym (append-nil told));
  same = refl;
  rest = is;
}

-- the next text was written
pub step_on : {T : Type 0} {before now after : Option (List ℕ)} {faults counted risen : ℕ} {left whole text : List ℕ} (rest : List ℕ) {value : T}
    → Underway before now faults counted left whole → left ≡ text ++ rest → Writes now after counted risen text (Ok value) → Underway before after faults risen rest whole
step_on {before = before} {now = now} {after = after} {counted = counted} {risen = risen} {text = text} rest {value = value} way is next = record {
  done = way.done ++ text;
  written = gained_both before now after way.done text way.written next.ok;
  same = same_count value now after counted risen text next ∙ way.same;
  rest = append_assoc way.done text rest ∙ ap (λ more. way.done ++ more) (sym is) ∙ way.rest;
}

-- the next text was cut short
pub step_cut : {T : Type 0} {before now after : Option (List ℕ)} {faults counted risen : ℕ} {left whole text : List ℕ} (rest : List ℕ) {fault : RunFault}
    → Underway before now faults counted left whole → left ≡ text ++ rest → Writes {T = T} now after counted risen text (Err fault) → Writes {T = T} before after faults risen whole (Err fault)
step_cut {T = T} {before = before} {now = now} {after = after} {faults = faults} {counted = counted} {risen = risen} {left = left} {whole = whole} {text = text} rest {fault = fault} way is next =
    let all : way.done ++ (text ++ rest) ≡ whole = ap (λ more. way.done ++ more) (sym is) ∙ way.rest in
    subst (λ t. Writes {T = T} before after faults risen t (Err fault)) all
    (whole_then before now after faults counted risen way.done (text ++ rest) (Err fault) way.written way.same (cut_then now after counted risen text rest fault next))

-- the last text was written, or cut short
pub last_step : {T : Type 0} {before now after : Option (List ℕ)} {faults counted risen : ℕ} {text whole : List ℕ} {answer : Result T RunFault}
    → Underway before now faults counted text whole → Writes now after counted risen text answer → Writes before after faults risen whole answer
last_step {before = before} {now = now} {after = after} {faults = faults} {counted = counted} {risen = risen} {text = text} {answer = answer} way next =
    subst (λ t. Writes before after faults risen t answer) way.rest
    (whole_then before now after faults counted risen way.done text answer way.written way.same next)

-- nothing is left
pub finished : {T : Type 0} {before now : Option (List ℕ)} {faults counted : ℕ} {left whole : List ℕ} (value : T) → left ≡ []
    → Underway before now faults counted left whole → Writes before now faults counted whole (Ok value)
finished {before = before} {now = now} {faults = faults} {counted = counted} {whole = whole} value none way =
    let all : way.done ≡ whole = sym (append-nil way.done) ∙ ap (λ more. way.done ++ more) (sym none) ∙ way.rest in record {
      ok = subst (Gained before now) all way.written;
      err = tt;
      cause = λ is. cc;
      blamed = λ rose. absurd (omega (arith, rose, way.same));
      never_falls = omega (arith, way.same);
    }

-- a fault was handed on
pub handed_on : {T : Type 0} {before after : Option (List ℕ)} {faults counted : ℕ} {text : List ℕ} (answer : Result T RunFault) {fault : RunFault}
    → IsErrAnd answer (λ handed. handed ≡ fault) → Writes {T = T} before after faults counted text (Err fault) → Writes before after faults counted text answer
handed_on (Ok value) handed writes = absurd handed
handed_on {T = T} {before = before} {after = after} {faults = faults} {counted = counted} {text = text} (Err other) handed writes =
    subst (λ (f : RunFault). Writes {T = T} before after faults counted text (Err f)) (sym handed) writes
