-- Interfaces of a library and of its table.
use Rattle.std.proofs.Common.{◌≡◌, ℕ, zero, suc, ◌≤◌, Bool, true, false, List, [], ◌∷◌, length, Option, Some, None, refl, sym, ap, ◌∙◌, arith}
use Rattle.std.specs.Prelude.{is_some, slice_get, option_map, nat_lt, unwrap_or, if◌then◌else◌}
use Rattle.std.specs.Option.{option_map_or}
use Rattle.std.proofs.lemmas.Bool.{false≢true}
use Rattle.std.proofs.lemmas.Grind.{common_steps}
use Rattle.std.proofs.lemmas.Option.{slice_get-map}
use Rattle.lib_model.specs.declared.contents.Iface.{Iface}
use Rattle.lib_model.specs.declared.contents.Library.{Library}
use Rattle.lib_model.specs.Table.{table_iface, table_of}
use Rattle.call_model.specs.Tables.{iface_at}
use Rattle.call_model.specs.declared.tables.TableIface.{TableIface}
use Rattle.descriptor_reader.specs.Views.{IfaceOf, iface_of, nth_iface, numbered}
use Rattle.script_meaning.specs.Outs.{iface_word}
use Rattle.printed_names.specs.Names.{escaped}
use Rattle.transcript_text.specs.Outs.{no_name_word}

slice_get-past : {X : Type 0} → (xs : List X) (k : ℕ) → length xs ≤ k → slice_get xs k ≡ None
slice_get-past [] k past = refl
slice_get-past (x ∷ xs) zero past = absurd (omega (arith, past))
slice_get-past (x ∷ xs) (suc k) past = slice_get-past xs k (omega (arith, past))

pub table-at : (lib : Library) (k : ℕ) → iface_at (table_of lib).ifaces k ≡ option_map table_iface (nth_iface lib.ifaces k)
unfolding table_of
table-at lib zero = refl
table-at lib (suc k) = slice_get-map table_iface lib.ifaces k

-- ---- by number, as the reader has them

none-inside : (lib : Library) (k : ℕ) (b : Bool) → nat_lt k (length lib.ifaces) ≡ b
    → if◌then◌else◌ {A = Option IfaceOf} b (Some (record { library = lib; number = suc k })) None ≡ None → slice_get lib.ifaces k ≡ None
none-inside lib k true e is = absurd (false≢true (sym (ap is_some is)))
none-inside lib k false e is =
    let past : length lib.ifaces ≤ k = grind (arith, common_steps) in slice_get-past lib.ifaces k past

none-at : (lib : Library) (k : ℕ) → numbered lib k ≡ None → nth_iface lib.ifaces k ≡ None
none-at lib zero e = refl
none-at lib (suc k) e = none-inside lib k (nat_lt k (length lib.ifaces)) refl e

some-inside : (lib : Library) (k : ℕ) (v : IfaceOf) (b : Bool)
    → if◌then◌else◌ {A = Option IfaceOf} b (Some (record { library = lib; number = suc k })) None ≡ Some v
    → record { library = lib; number = suc k } ≡ v
some-inside lib k v true is = ap (λ o. unwrap_or o v) is
some-inside lib k v false is = absurd (false≢true (ap is_some is))

some-at : (lib : Library) (k : ℕ) (v : IfaceOf) → numbered lib k ≡ Some v → record { library = lib; number = k } ≡ v
some-at lib zero v e = absurd (false≢true (ap is_some e))
some-at lib (suc k) v e = some-inside lib k v (nat_lt k (length lib.ifaces)) e

-- ---- their names, as words

word_of : Option TableIface → List ℕ
word_of found = option_map_or (λ (i : TableIface). escaped i.name) found no_name_word

pub no-iface : (lib : Library) (k : ℕ) → numbered lib k ≡ None → no_name_word ≡ iface_word (table_of lib) k
unfolding word_of
no-iface lib k e = sym (ap word_of (table-at lib k ∙ ap (option_map table_iface) (none-at lib k e)))

named : (found : Option Iface) (name : List ℕ) → option_map (λ (i : Iface). i.name) found ≡ Some name
    → escaped name ≡ word_of (option_map table_iface found)
unfolding word_of
named None name e = absurd (false≢true (ap is_some e))
named (Some i) name e = ap escaped (sym (ap (λ o. unwrap_or o name) e))

pub the-iface : (lib : Library) (k : ℕ) (v : IfaceOf) (name : List ℕ) → numbered lib k ≡ Some v
    → option_map (λ (i : Iface). i.name) (iface_of v) ≡ Some name
    → escaped name ≡ iface_word (table_of lib) k
unfolding word_of
the-iface lib k v name e is =
    named (nth_iface lib.ifaces k) name (ap (λ w. option_map (λ (i : Iface). i.name) (iface_of w)) (some-at lib k v e) ∙ is)
    ∙ sym (ap word_of (table-at lib k))
