-- An identifier has 16 bytes.
use Rattle.std.proofs.Common.{◌≡◌, ℕ, Bool, true, false, List, [], ◌∷◌, length, take, drop, slice_index, Option, Some, None, refl, if◌then◌else◌}
use Rattle.std.specs.Prelude.{codes, ◌==◌, ◌&&◌}
use Rattle.std.specs.List.{list_all}
use Rattle.std.specs.Option.{option_or}
use Rattle.std.specs.Str.{bytes_eq}
use Rattle.uuid.specs.Text.{by_index, byte_of_digits, close_brace, digits_of, has_hyphens, has_urn_prefix, is_hex_digit, open_brace, parsed, parsed_braced, parsed_hyphenated, parsed_simple, parsed_urn}
use Rattle.uuid.proofs.TextLemmas.{by_index_length}
use Rattle.idl_grammar.specs.declared.tree.Attr.{Attr}
use Rattle.idl_grammar.specs.declared.tree.AttrValue.{AttrValue}
use Rattle.idl_grammar.specs.declared.tree.AttrValue.TheVariants as value
use Rattle.idl_meaning.specs.Attributes.{given, iid_in, uuid_of}
use Rattle.idl_meaning.specs.Scopes.{iid_or_zero}

-- 16 bytes, where there are any
abbrev pub IsLongIid : Option (List ℕ) → Type 0
IsLongIid None = Unit {0}
IsLongIid (Some bytes) = length bytes ≡ 16

if-long : (b : Bool) (o p : Option (List ℕ)) → IsLongIid o → IsLongIid p
    → IsLongIid (if b then o else p)
if-long true o p h k = h
if-long false o p h k = k

simple-long : (hex : List ℕ) → IsLongIid (parsed_simple hex)
simple-long hex =
    if-long ((length hex == 32) && list_all is_hex_digit hex)
    (Some (by_index 16 (byte_of_digits hex))) None
    (by_index_length 16 (byte_of_digits hex)) tt

hyphenated-long : (text : List ℕ) → IsLongIid (parsed_hyphenated text)
hyphenated-long text =
    if-long ((length text == 36) && has_hyphens text) (parsed_simple (digits_of text)) None
    (simple-long (digits_of text)) tt

braced-long : (text : List ℕ) → IsLongIid (parsed_braced text)
braced-long text =
    if-long ((length text == 38) && (slice_index text 0 == open_brace) &&
    (slice_index text 37 == close_brace))
    (parsed_hyphenated (take 36 (drop 1 text))) None (hyphenated-long (take 36 (drop 1 text))) tt

urn-long : (text : List ℕ) → IsLongIid (parsed_urn text)
urn-long text =
    if-long ((length text == 45) && has_urn_prefix text) (parsed_hyphenated (drop 9 text)) None
    (hyphenated-long (drop 9 text)) tt

parsed-long : (text : List ℕ) → IsLongIid (parsed text)
parsed-long text =
    if-long (length text == 32) (parsed_simple text) _ (simple-long text)
    (if-long (length text == 36) (parsed_hyphenated text) _ (hyphenated-long text)
    (if-long (length text == 38) (parsed_braced text) _ (braced-long text)
    (if-long (length text == 45) (parsed_urn text) None (urn-long text) tt)))

in-long : (v : AttrValue) → IsLongIid (iid_in v)
in-long (value.Iid text) = parsed-long text
in-long value.Absent = tt
in-long (value.Word name) = tt

or-long : (o p : Option (List ℕ)) → IsLongIid o → IsLongIid p → IsLongIid (option_or o p)
or-long None p h k = k
or-long (Some bytes) p h k = h

pub uuid-long : (attrs : List Attr) → IsLongIid (uuid_of attrs)
uuid-long [] = tt
uuid-long (a ∷ more) =
    or-long (given iid_in (codes "uuid") a) (uuid_of more)
    (if-long (bytes_eq a.name (codes "uuid")) (iid_in a.value) None (in-long a.value) tt)
    (uuid-long more)

pub iid-or-zero : (o : Option (List ℕ)) → IsLongIid o → length (iid_or_zero o) ≡ 16
iid-or-zero None h = refl
iid-or-zero (Some bytes) h = h
