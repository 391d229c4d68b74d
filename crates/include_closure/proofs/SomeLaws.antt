-- The visits of names come to something: each file is begun once, and there are so many.
use Rattle.std.proofs.Common.{◌≡◌, ◌≤◌, ◌<◌, ◌+◌, ℕ, zero, suc, Bool, true, false, cond, List, [], ◌∷◌, ◌++◌, Option, Some, None, refl, sym, ◌∙◌, ap, subst, arith}
use Rattle.std.specs.Prelude.{find}
use Rattle.std.specs.Option.{option_map}
use Rattle.std.specs.Str.{bytes_eq}
use Rattle.std.proofs.lemmas.Slice.Eq.{bytes_eq-Decides}
use Rattle.xp_base.specs.declared.named_file.NamedFile.{NamedFile}
use Rattle.xp_base.specs.Files.{Files, file_in}
use Rattle.idl_grammar.specs.declared.tree.IdlFile.{IdlFile}
use Rattle.idl_grammar.specs.Texts.{Reading, Tree, NoToken, NoTree}
use Rattle.include_closure.specs.declared.closure_error.ClosureError.{ClosureError}
use Rattle.include_closure.specs.declared.file_error.FileError.{FileError}
use Rattle.include_closure.specs.declared.file_error.FileError.TheVariants as file
use Rattle.include_closure.specs.declared.visited.Visited.{Visited}
use Rattle.include_closure.specs.Closure.{Faults, Takes, Outcome, Whole, Stopped, Visits, done, again, taken, inside, fault, begun_of, begins, closes}
use Rattle.include_closure.specs.FileFaults.{named}
use Rattle.include_closure.specs.Names.{is_begun, includes}
use Rattle.include_closure.proofs.BegunLaws.{begun-later, begun-last}
use Rattle.include_closure.proofs.GrowLaws.{Keeps, grows}
use Rattle.include_closure.proofs.SeenLaws.{Seen, Absent, Long, Said, Sees, some-seen}

-- ---- how many files were not begun

left_of : Files → List (List ℕ) → ℕ
left_of [] begun = 0
left_of (f ∷ files) begun = cond (is_begun begun f.name) 0 1 + left_of files begun

fewer : (b c : Bool) → (b ≡ true → c ≡ true) → cond c 0 1 ≤ cond b 0 1
fewer true c h = rw (h refl) (omega arith)
fewer false true h = omega arith
fewer false false h = omega arith

left-mono : (files : Files) (before after : List (List ℕ)) → Keeps before after → left_of files after ≤ left_of files before
unfolding left_of
left-mono [] before after keeps = omega arith
left-mono (f ∷ files) before after keeps =
    let here = fewer (is_begun before f.name) (is_begun after f.name) (keeps f.name) in
    let more = left-mono files before after keeps in omega arith

left-less-of : (files : Files) (begun : List (List ℕ)) (name : List ℕ) (bytes : List ℕ) → file_in files name ≡ Some bytes → is_begun begun name ≡ false
    → left_of files (begun ++ name ∷ []) < left_of files begun
unfolding left_of
left-less-of [] begun name bytes e h = absurd cc
left-less-of (f ∷ files) begun name bytes e h = of_test (bytes_eq f.name name) refl e (λ k. left-less-of files begun name bytes k h) where
  later : left_of files (begun ++ name ∷ []) ≤ left_of files begun
  later = left-mono files begun (begun ++ name ∷ []) (λ n k. begun-later begun name n k)

  of_test : (b : Bool) → bytes_eq f.name name ≡ b → option_map (λ (x : NamedFile). x.bytes) (cond b (Some f) (find (λ (x : NamedFile). bytes_eq x.name name) files)) ≡ Some bytes
      → (file_in files name ≡ Some bytes → left_of files (begun ++ name ∷ []) < left_of files begun)
      → cond (is_begun (begun ++ name ∷ []) f.name) 0 1 + left_of files (begun ++ name ∷ []) < cond (is_begun begun f.name) 0 1 + left_of files begun
  of_test true t k less =
      let same = (bytes_eq-Decides f.name name).0 t in
      let old : is_begun begun f.name ≡ false = ap (is_begun begun) same ∙ h in
      let new : is_begun (begun ++ name ∷ []) f.name ≡ true = ap (is_begun (begun ++ name ∷ [])) same ∙ begun-last begun name in
      rw (old, new) (omega (arith, later))
  of_test false t k less =
      let more = less k in
      let here = fewer (is_begun begun f.name) (is_begun (begun ++ name ∷ []) f.name) (λ k. begun-later begun name f.name k) in
      omega arith

left-less : (told : Files) (v : Visited) (name bytes : List ℕ) (tree : IdlFile) → Takes told v name bytes tree → left_of told (begins v name bytes).begun < left_of told v.begun
left-less told v name bytes tree t = left-less-of told v.begun name bytes t.short.there t.fresh

-- ---- what comes of names

pub Comes : Files → List (List ℕ) → Visited → Type 0
Comes told names v = (o : Outcome) × Visits told names v o

-- it comes to something wherever so few files are left
abbrev Few : Files → ℕ → Type 0
Few told n = (names : List (List ℕ)) (v : Visited) → left_of told v.begun < n → Comes told names v

-- the same of these names
abbrev FewOf : Files → ℕ → List (List ℕ) → Type 0
FewOf told n names = (v : Visited) → left_of told v.begun < n → Comes told names v

stops : (told : Files) (name : List ℕ) (names : List (List ℕ)) (v : Visited) (e : FileError) → is_begun v.begun name ≡ false → Faults told v.size name e → Comes told (name ∷ names) v
unfolding Comes
stops told name names v e h f = (Stopped (v.begun ++ name ∷ []) (named name e), fault name names v e h f)

-- once the included names came to something
goes-on : (told : Files) (n : ℕ) (name : List ℕ) (names : List (List ℕ)) (rest : FewOf told (suc n) names) (v : Visited) → left_of told v.begun < suc n
    → (bytes : List ℕ) (tree : IdlFile) → Takes told v name bytes tree → (o : Outcome) → Visits told (includes tree.items) (begins v name bytes) o → Comes told (name ∷ names) v
unfolding Comes
goes-on told n name names rest v h bytes tree t (Stopped begun e) first = (Stopped begun e, inside name names v bytes tree begun e t first)
goes-on told n name names rest v h bytes tree t (Whole w) first =
    let few = left-mono told (begins v name bytes).begun w.begun (grows told _ _ _ first) in
    let less = left-less told v name bytes tree t in
    let more = rest (closes w name tree) (omega arith) in (more.0, taken name names v w bytes tree more.0 t first more.1)

of_seen : (told : Files) (n : ℕ) (smaller : Few told n) (name : List ℕ) (names : List (List ℕ)) (rest : FewOf told (suc n) names) (v : Visited) → left_of told v.begun < suc n
    → is_begun v.begun name ≡ false → (s : Seen) → Sees told v.size name s → Comes told (name ∷ names) v
unfolding Comes
of_seen told n smaller name names rest v h fresh Absent sees = stops told name names v file.Missing fresh sees
of_seen told n smaller name names rest v h fresh Long sees = stops told name names v file.TooLong fresh sees
of_seen told n smaller name names rest v h fresh (Said bytes (NoToken line)) sees =
    stops told name names v (file.Token line) fresh (bytes, sees.0, sees.1)
of_seen told n smaller name names rest v h fresh (Said bytes (NoTree line)) sees =
    stops told name names v (file.Syntax line) fresh (bytes, sees.0, sees.1)
of_seen told n smaller name names rest v h fresh (Said bytes (Tree tree)) sees =
    let t : Takes told v name bytes tree = record { fresh = fresh; short = sees.0; says = sees.1 } in
    let less = left-less told v name bytes tree t in
    let first = smaller (includes tree.items) (begins v name bytes) (omega arith) in
    goes-on told n name names rest v h bytes tree t first.0 first.1

of_name : (told : Files) (n : ℕ) (smaller : Few told n) (name : List ℕ) (names : List (List ℕ)) (rest : FewOf told (suc n) names) (v : Visited) → left_of told v.begun < suc n
    → (b : Bool) → is_begun v.begun name ≡ b → Comes told (name ∷ names) v
unfolding Comes
of_name told n smaller name names rest v h true begun = let more = rest v h in (more.0, again name names v more.0 begun more.1)
of_name told n smaller name names rest v h false fresh =
    let seen = some-seen told v.size name in of_seen told n smaller name names rest v h fresh seen.0 seen.1

each-some : (told : Files) (n : ℕ) (smaller : Few told n) (names : List (List ℕ)) → FewOf told (suc n) names
unfolding Comes
each-some told n smaller [] v h = (Whole v, done v)
each-some told n smaller (name ∷ names) v h = of_name told n smaller name names (each-some told n smaller names) v h (is_begun v.begun name) refl

all-some : (told : Files) (n : ℕ) → Few told n
all-some told zero names v h = absurd (omega arith)
all-some told (suc n) names v h = each-some told n (all-some told n) names v h

pub visits-some : (told : Files) (names : List (List ℕ)) (v : Visited) → (o : Outcome) × Visits told names v o
unfolding Comes
visits-some told names v = all-some told (suc (left_of told v.begun)) names v (omega arith)
