-- The file of `big` is an include closure without faults, and this is its scope.
use Rattle.std.proofs.Common.{◌≡◌, ℕ, zero, suc, ◌+◌, ◌*◌, ◌-◌, ◌≤◌, ◌==◌, nat_le, true, false, List, [], ◌∷◌, ◌++◌, length, get_or, Some, None, refl, sym, ap, ◌∙◌, arith, append-nil, length-append, codes, if◌then◌else◌}
use Rattle.std.proofs.lemmas.Bool.{leb-true, le-leb}
use Rattle.std.proofs.lemmas.List.Elements.{All-cons, All-nil}
use Rattle.std.specs.Fmt.{digits}
use Rattle.uuid.specs.Text.{by_index}
use Rattle.xp_base.specs.declared.limits.TheConstants.{MAX_TEXT}
use Rattle.idl_lexer.proofs.LexLaws.{tokens-count}
use Rattle.idl_grammar.specs.declared.tree.ClosedFile.{ClosedFile}
use Rattle.idl_grammar.specs.declared.tree.Item.{Item}
use Rattle.idl_grammar.specs.ClosedFiles.{AreLawfulFiles}
use Rattle.idl_grammar.specs.Texts.{IsLawfulFile}
use Rattle.include_closure.specs.Closure.{IsClosure, Whole, done, taken, nothing, begins, closes, has_room}
use Rattle.include_closure.specs.Names.{includes}
use Rattle.idl_meaning.specs.declared.scope.ScopeBody.TheVariants as body
use Rattle.idl_meaning.specs.declared.scope.ScopeIface.{ScopeIface}
use Rattle.idl_meaning.specs.declared.scope.ScopeMember.{ScopeMember}
use Rattle.idl_grammar.specs.declared.tree.TypeName.TheVariants as type
use Rattle.idl_meaning.specs.Accepted.{IsAcceptedScope}
use Rattle.idl_meaning.specs.Faults.{faults_of, file_faults, item_faults}
use Rattle.idl_meaning.specs.Meaning as m
use Rattle.idl_meaning.specs.Meaning.{sense}
use Rattle.idl_meaning.specs.Scopes.{Known, nothing_known, after, after_items, iface_made, params_made, result_of, scope_of}
use Rattle.idl_meaning.proofs.WholeScope.{scope-accepted}
use Rattle.big_texts.specs.Files.{idl_files}
use Rattle.big_texts.specs.Idl.{big_idl, iface_text, param_count}
use Rattle.big_texts.specs.Pieces.{decimal, pieces}
use Rattle.big_laws.specs.Trees.{listed, big_files, big_iface, big_item, big_param, big_tree}
use Rattle.big_laws.proofs.Below.{same_at}
use Rattle.big_laws.proofs.Lexemes.{has_tree}
use Rattle.big_laws.proofs.Listed.{length_listed, listed_at, listed_split}

-- ---- the closure

pub text_short : (n : ℕ) → n ≤ 250 → length (pieces iface_text n) ≤ 800 * n
unfolding digits
text_short zero few = omega arith
text_short (suc n) few =
    let one : length (iface_text n) ≤ 800 =
    leb-true (length (iface_text n)) 800
    (same_at (λ k. nat_le (length (iface_text k)) 800) (λ k. true) 250 refl n (omega (arith, few))) in
    omega (
      arith,
      length-append (pieces iface_text n) (iface_text n),
      text_short n (omega (arith, few)),
      one,
    )

no_includes : (n i : ℕ) → includes (listed big_item i n) ≡ []
no_includes zero i = refl
no_includes (suc n) i = no_includes n (suc i)

pub closed : (last : ℕ) → last ≤ 249 → IsClosure (idl_files last) (codes "big.idl" ∷ []) (big_files last)
closed last few =
    let short = text_short (last + 1) (omega (arith, few)) in
    let alone : nat_le (length (big_idl last)) MAX_TEXT ≡ true =
    le-leb (length (big_idl last)) MAX_TEXT (omega (arith, short, few)) in
    let room : has_room 0 (big_idl last) ≡ true = rw alone (le-leb _ _ (omega (arith, short, few))) in
    let inner = begins nothing (codes "big.idl") (big_idl last) in (
      closes inner (codes "big.idl") (big_tree (last + 1)),
      taken (codes "big.idl") [] nothing inner (big_idl last) (big_tree (last + 1))
          (Whole (closes inner (codes "big.idl") (big_tree (last + 1))))
          (record {
            fresh = refl;
            short = record { there = refl; room = room };
            says = has_tree (last + 1) (omega (arith, few));
          })
          (rw (no_includes (last + 1) 0) (done inner))
          (done (closes inner (codes "big.idl") (big_tree (last + 1)))),
      refl,
    )

-- ---- no faults

nil_parts : {A : Type 0} (xs ys : List A) → xs ++ ys ≡ [] → (xs ≡ []) × (ys ≡ [])
nil_parts [] ys none = (refl, none)
nil_parts (x ∷ xs) ys none = cc

first_part : (decl : ℕ) (k : Known) (xs ys : List Item) → file_faults 0 decl k (xs ++ ys) ≡ []
    → file_faults 0 decl k xs ≡ []
first_part decl k [] ys none = refl
first_part decl k (x ∷ xs) ys none =
    let parts = nil_parts (item_faults 0 decl k x.body)
    (file_faults 0 (suc decl) (after 0 decl k x.body) (xs ++ ys)) none in
    ap (λ fs. fs ++ file_faults 0 (suc decl) (after 0 decl k x.body) xs) parts.0
    ∙ first_part (suc decl) (after 0 decl k x.body) xs ys parts.1

all_items : (n : ℕ) → n ≤ 250
    → listed big_item 0 n ++ listed big_item n (250 - n) ≡ listed big_item 0 250
all_items n few =
    let one : n ≡ 0 + n = omega arith in
    let all : n + (250 - n) ≡ 250 = omega (arith, few) in
    ap (λ j. listed big_item 0 n ++ listed big_item j (250 - n)) one
    ∙ listed_split big_item n 0 (250 - n) ∙ ap (listed big_item 0) all

all_faultless : file_faults 0 0 nothing_known (listed big_item 0 250) ≡ []
unfolding digits by_index
all_faultless = refl

pub faultless : (last : ℕ) → last ≤ 249 → faults_of (big_files last) ≡ []
faultless last few =
    let n = last + 1 in
    append-nil (file_faults 0 0 nothing_known (listed big_item 0 n))
    ∙ first_part 0 nothing_known (listed big_item 0 n) (listed big_item n (250 - n))
    (ap (file_faults 0 0 nothing_known) (all_items n (omega (arith, few))) ∙ all_faultless)

-- ---- the scope

abbrev pub big_member_meant : (i : ℕ) → ScopeMember
big_member_meant i = record {
  name = codes "m" ++ decimal i;
  member = 1;
  body = body.Method false false false false (result_of (sense m.nothing type.Long))
      (params_made m.nothing (λ name. None) (listed (big_param i) 0 (param_count i)));
}

-- the interface i of the scope
abbrev pub scope_iface : (i : ℕ) → ScopeIface
scope_iface i =
    iface_made 0 i (big_iface i) (if i == 0 then None else Some (i - 1)) (big_member_meant i ∷ [])

-- the interfaces that are known before each of the items, and behind the last
abbrev states : (decl : ℕ) → Known → List Item → List (List ScopeIface)
states decl k [] = k.ifaces ∷ []
states decl k (x ∷ more) = k.ifaces ∷ states (suc decl) (after 0 decl k x.body) more

state_behind : (decl : ℕ) (k : Known) (xs ys : List Item)
    → get_or (states decl k (xs ++ ys)) (length xs) [] ≡ (after_items 0 decl k xs).ifaces
state_behind decl k [] [] = refl
state_behind decl k [] (y ∷ ys) = refl
state_behind decl k (x ∷ xs) ys = state_behind (suc decl) (after 0 decl k x.body) xs ys

all_states : states 0 nothing_known (listed big_item 0 250) ≡ listed (listed scope_iface 0) 0 251
unfolding digits by_index
all_states = refl

pub scope_is : (last : ℕ) → last ≤ 249
    → (scope_of (big_files last)).ifaces ≡ listed scope_iface 0 (last + 1)
scope_is last few =
    let n = last + 1 in
    let same : 0 + n ≡ n = omega arith in
    sym (state_behind 0 nothing_known (listed big_item 0 n) (listed big_item n (250 - n)))
    ∙ ap (λ xs. get_or (states 0 nothing_known xs) (length (listed big_item 0 n)) [])
    (all_items n (omega (arith, few)))
    ∙ ap (λ k. get_or (states 0 nothing_known (listed big_item 0 250)) k []) (length_listed big_item n 0)
    ∙ ap (λ xs. get_or xs n []) all_states
    ∙ listed_at (listed scope_iface 0) 251 0 n [] (omega (arith, few))
    ∙ ap (listed scope_iface 0) same

-- ---- the scope is accepted

lawful : (last : ℕ) → last ≤ 249 → IsLawfulFile (big_tree (last + 1))
lawful last few =
    let has = has_tree (last + 1) (omega (arith, few)) in
    record {
      bytes = big_idl last;
      has = has;
      few = omega (
        arith,
        few,
        text_short (last + 1) (omega (arith, few)),
        tokens-count (big_idl last) has.tokens has.spelled,
      );
    }

pub all_lawful : (last : ℕ) → last ≤ 249 → AreLawfulFiles (big_files last)
all_lawful last few =
    All-cons (λ (one : ClosedFile). IsLawfulFile one.file)
    (record { name = codes "big.idl"; file = big_tree (last + 1) }) [] (lawful last few)
    (All-nil (λ (one : ClosedFile). IsLawfulFile one.file))

pub accepted_scope : (last : ℕ) → last ≤ 249 → IsAcceptedScope (scope_of (big_files last))
accepted_scope last few =
    scope-accepted (big_files last) (all_lawful last few)
    (omega (arith, few, length_listed big_item (last + 1) 0)) (faultless last few)
