-- What is wrong where a fault is: for each kind of fault, what holds at its place, in the words of
-- what a library's bytes denote and of the parts that are reached.
use Rattle.std.specs.Prelude.{◌≡◌, ◌≢◌, ◌⊎◌, ℕ, zero, suc, ◌+◌, ◌-◌, ◌*◌, ◌<◌, ◌≤◌, List, length, take, Option, IfSome, sum_by}
use Rattle.xp_base.specs.declared.kinds.ConstKind.{ConstKind}
use Rattle.lib_model.specs.declared.tags.TheConstants as tags
use Rattle.lib_model.specs.Denotes.{AnnotationStands, NameStands, NamespaceStands, byte_at, half_at, pool_of, tag_at, word_at}
use Rattle.lib_model.specs.Emit.{kind_tag, magic}
use Rattle.lib_model.specs.Valid.{IsCountParam, IsIfaceNumber, IsIidParam, IsName, IsNamespace, IsParent, chain_of, own_slots}
use Rattle.typelib_faults.specs.declared.cursor.Cursor.{Cursor}
use Rattle.typelib_faults.specs.declared.faults.BadTypelib.{BadTypelib}
use Rattle.typelib_faults.specs.declared.faults.TheConstants as codes
use Rattle.typelib_faults.specs.Places.{count_of, directory_of, entries_of, params_at}
use Rattle.typelib_faults.specs.Reached.{IsConstantAt, IsCountArgAt, IsDescriptorAt, IsElemAt, IsFieldAt, IsIidArgAt, IsItemAt, IsNameAt, IsNamespaceAt, IsNumberAt, IsParamTypeAt, IsSizedTag, IsTypeAt}

pub data FaultKind : Type 0 where
  Short : FaultKind
  Magic : FaultKind
  Version : FaultKind
  Length : FaultKind
  Annotation : FaultKind
  Directory : FaultKind
  Pool : FaultKind
  Name : FaultKind
  Number : FaultKind
  Chain : FaultKind
  Tag : FaultKind
  Argument : FaultKind
  Items : FaultKind
  Slots : FaultKind
  Field : FaultKind

abbrev pub code_of : FaultKind → ℕ
code_of Short = codes.SHORT
code_of Magic = codes.MAGIC
code_of Version = codes.VERSION
code_of Length = codes.LENGTH
code_of Annotation = codes.ANNOTATION
code_of Directory = codes.DIRECTORY
code_of Pool = codes.POOL
code_of Name = codes.NAME
code_of Number = codes.NUMBER
code_of Chain = codes.CHAIN
code_of Tag = codes.TAG
code_of Argument = codes.ARGUMENT
code_of Items = codes.ITEMS
code_of Slots = codes.SLOTS
code_of Field = codes.FIELD

-- ---- the header

-- at place p begins the annotation that comes after n others, none of which is the last
abbrev pub BeginsAfter : List ℕ → ℕ → ℕ → Type 0
BeginsAfter x zero p = p ≡ 32
BeginsAfter x (suc n) p =
    (q : ℕ) × (BeginsAfter x n q × ((byte_at x q < 128) × AnnotationStands x q p))

-- there is to be an annotation at place p, and there is none that lies inside the file
pub record LacksAnnotation (x : List ℕ) (p : ℕ) : Type 0 where
  pub before : ℕ
  pub begins : BeginsAfter x before p
  pub lacks : (q : ℕ) → ¬ AnnotationStands x p q

-- a directory that begins and ends inside the file
abbrev pub HasDirectory : List ℕ → Type 0
HasDirectory x = (0 < word_at x 24) × (directory_of x + 28 * count_of x ≤ length x)

-- ---- names

-- an offset stands at place p, and it is that of no name, or of no namespace, inside the file
pub record LacksName (x : List ℕ) (p : ℕ) : Type 0 where
  pub is : IsNameAt x p
  pub lacks : (name : List ℕ) → NameStands x p name → ¬ IsName name

pub record LacksNamespace (x : List ℕ) (p : ℕ) : Type 0 where
  pub is : IsNamespaceAt x p
  pub lacks : (name : Option (List ℕ)) → NamespaceStands x p name → ¬ IfSome name IsNamespace

-- ---- numbers, tags and arguments

-- at place p stands a number that is that of no interface; or a parent's number, and it is neither
-- 0 nor that of a resolved interface
pub record NamesNoIface (x : List ℕ) (p : ℕ) : Type 0 where
  pub is : IsNumberAt x p
  pub lacks : ¬ IsIfaceNumber (count_of x) (half_at x p)

pub record NamesNoParent (x : List ℕ) (p : ℕ) : Type 0 where
  pub descriptor : Cursor
  pub is : IsDescriptorAt x descriptor
  pub place : p ≡ descriptor.place
  pub lacks : ¬ IsParent (entries_of x) (half_at x p)

-- at place p stands a tag of no type; or of no type of elements; or of no kind of constant
pub record HasNoTypeTag (x : List ℕ) (p : ℕ) : Type 0 where
  pub is : IsTypeAt x p
  pub lacks : tags.JSVAL < tag_at x p

pub record HasNoElemTag (x : List ℕ) (p : ℕ) : Type 0 where
  pub is : IsElemAt x p
  pub lacks : (tags.JSVAL < tag_at x p) ⊎ IsSizedTag (tag_at x p)

pub record HasNoKindTag (x : List ℕ) (p : ℕ) : Type 0 where
  pub constant : Cursor
  pub is : IsConstantAt x constant
  pub place : p ≡ constant.place + 4
  pub lacks : (kind : ConstKind) → tag_at x p ≢ kind_tag kind

-- at place p stands the number of an argument, and it is no parameter's of the type that is wanted
pub record NamesNoCount (x : List ℕ) (p : ℕ) : Type 0 where
  pub method : Cursor
  pub ty : ℕ
  pub ty_is : IsParamTypeAt x method ty
  pub is : IsCountArgAt x ty p
  pub lacks : ¬ IsCountParam (params_at x method.place) (byte_at x p)

pub record NamesNoIid (x : List ℕ) (p : ℕ) : Type 0 where
  pub method : Cursor
  pub ty : ℕ
  pub ty_is : IsParamTypeAt x method ty
  pub is : IsIidArgAt x ty p
  pub lacks : ¬ IsIidParam (params_at x method.place) (byte_at x p)

-- ---- interfaces and items

-- at place p stands the entry of an interface whose chain of parents, itself counted, is longer
-- than 250 or never ends; or has more than 250 slots
pub record HasLongChain (x : List ℕ) (p : ℕ) : Type 0 where
  pub number : ℕ
  pub is : IsIfaceNumber (count_of x) number
  pub place : p ≡ directory_of x + 28 * (number - 1)
  pub long : 250 < length (chain_of (entries_of x) number)

pub record HasManySlots (x : List ℕ) (p : ℕ) : Type 0 where
  pub number : ℕ
  pub is : IsIfaceNumber (count_of x) number
  pub place : p ≡ directory_of x + 28 * (number - 1)
  pub many : 250 < sum_by (own_slots (entries_of x)) (chain_of (entries_of x) number)

-- at place p stands an item that 1,000,000 or more come before
pub record IsItemTooMany (x : List ℕ) (p : ℕ) : Type 0 where
  pub item : Cursor
  pub is : IsItemAt x item
  pub place : p ≡ item.place
  pub many : 1000000 ≤ item.items

-- at place p stands a field of a descriptor that ends past the file
pub record EndsPast (x : List ℕ) (p : ℕ) : Type 0 where
  pub len : ℕ
  pub is : IsFieldAt x p len
  pub past : length x < p + len

-- ---- each kind

-- what is wrong at place p where a fault of this kind is there
abbrev pub IsFaultAt : List ℕ → FaultKind → ℕ → Type 0
IsFaultAt x Short p = (p ≡ length x) × (length x < 32)
IsFaultAt x Magic p = (p ≡ 0) × (take 16 x ≢ magic)
IsFaultAt x Version p = (p ≡ 16) × ¬ ((byte_at x 16 ≡ 1) × (byte_at x 17 ≡ 2))
IsFaultAt x Length p = (p ≡ 20) × (word_at x 20 ≢ length x)
IsFaultAt x Annotation p = LacksAnnotation x p
IsFaultAt x Directory p = (p ≡ 24) × ((0 < count_of x) × ¬ HasDirectory x)
IsFaultAt x Pool p = (p ≡ 28) × (length x < pool_of x)
IsFaultAt x Name p = LacksName x p ⊎ LacksNamespace x p
IsFaultAt x Number p = NamesNoIface x p ⊎ NamesNoParent x p
IsFaultAt x Chain p = HasLongChain x p
IsFaultAt x Tag p = HasNoTypeTag x p ⊎ (HasNoElemTag x p ⊎ HasNoKindTag x p)
IsFaultAt x Argument p = NamesNoCount x p ⊎ NamesNoIid x p
IsFaultAt x Items p = IsItemTooMany x p
IsFaultAt x Slots p = HasManySlots x p
IsFaultAt x Field p = EndsPast x p

-- the fault has the code of a kind, and what it blames is wrong
pub record IsFault (x : List ℕ) (fault : BadTypelib) : Type 0 where
  pub kind : FaultKind
  pub code : fault.code ≡ code_of kind
  pub cause : IsFaultAt x kind fault.at
