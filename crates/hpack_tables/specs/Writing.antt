-- What a header encoder writes (RFC 7541, sections 5 and 6).
use Rattle.std.specs.Prelude.{◌≡◌, ℕ, zero, suc, ◌+◌, ◌-◌, ◌/◌, ◌%◌, ◌^◌, ◌&&◌, ◌||◌, not, Bool, true, false, nat_lt, List, [], ◌∷◌, ◌++◌, length, bytes_eq, Option, Some, None, if◌then◌else◌}
use Rattle.hpack_huffman.specs.Code.{IsHuffman}
use Rattle.hpack_tables.specs.declared.field.Field.{Field}
use Rattle.hpack_tables.specs.declared.encoder.Style.{Style}
use Rattle.hpack_tables.specs.declared.encoder.Style.TheVariants.{Plain, Indexed}
use Rattle.hpack_tables.specs.EntrySizes.{fitting}
use Rattle.hpack_tables.specs.StaticTable.{static_table}

-- ---- integers

-- groups of seven bits, the lowest first, each but the last marked; at most so many behind the first
unfoldable pub groups_text : ℕ → ℕ → List ℕ
groups_text zero n = n ∷ []
groups_text (suc k) n = if nat_lt n 128 then n ∷ [] else (128 + n % 128) ∷ groups_text k (n / 128)

-- an integer behind first bits, with a prefix of so many bits
unfoldable pub integer_text : ℕ → ℕ → ℕ → List ℕ
integer_text first bits n =
    if nat_lt n (2 ^ bits - 1) then (first + n) ∷ []
    else (first + (2 ^ bits - 1)) ∷ groups_text 4 (n - (2 ^ bits - 1))

-- ---- strings

-- the bytes as they are
abbrev pub plain_string : List ℕ → List ℕ
plain_string text = integer_text 0 7 (length text) ++ text

-- the code, or the bytes as they are where the code is not shorter
abbrev pub shorter_string : List ℕ → List ℕ → List ℕ
shorter_string code text = if nat_lt (length code) (length text) then integer_text 128 7 (length code) ++ code else plain_string text

abbrev pub IsString : Style → List ℕ → List ℕ → Type 0
IsString Plain text out = out ≡ plain_string text
IsString Indexed text out = (code : List ℕ) × IsHuffman code text × (out ≡ shorter_string code text)

-- ---- indexes

-- the same name, and the same value too where the whole field is looked for
abbrev pub fits : Bool → Field → Field → Bool
fits whole f g = bytes_eq g.name f.name && (not whole || bytes_eq g.value f.value)

-- the least index, from the given one on, of an entry that passes
abbrev pub index_from : (Field → Bool) → ℕ → List Field → Option ℕ
index_from p i [] = None
index_from p i (f ∷ fs) = if p f then Some i else index_from p (suc i) fs

-- the entries that a style looks in, from index 1 on
abbrev pub looked_in : Style → List Field → List Field
looked_in Plain entries = static_table
looked_in Indexed entries = static_table ++ entries

-- the least index of a field, or of an entry that has its name
unfoldable pub index_of : Style → Bool → Field → List Field → Option ℕ
index_of style whole f entries = index_from (fits whole f) 1 (looked_in style entries)

-- ---- fields

-- the first bits of a literal: without indexing, or with incremental indexing
abbrev pub first_bits : Style → ℕ
first_bits Plain = 0
first_bits Indexed = 64

-- how many bits its name's index has in its first byte
abbrev pub prefix : Style → ℕ
prefix Plain = 4
prefix Indexed = 6

-- the name of a literal: an index, or 0 and a string
abbrev pub IsName : Style → List ℕ → Option ℕ → List ℕ → Type 0
IsName style name (Some i) out = out ≡ integer_text (first_bits style) (prefix style) i
IsName style name None out = (text : List ℕ) × IsString style name text × (out ≡ integer_text (first_bits style) (prefix style) 0 ++ text)

-- the entries behind a literal
abbrev pub taken : Style → ℕ → Field → List Field → List Field
taken Plain max f entries = entries
taken Indexed max f entries = fitting max (f ∷ entries)

-- a literal, and the entries behind it
abbrev pub IsLiteral : Style → ℕ → Field → List Field → List ℕ → List Field → Type 0
IsLiteral style max f entries out after =
    (name : List ℕ) × (value : List ℕ) × IsName style f.name (index_of style false f entries) name × IsString style f.value value
    × (out ≡ name ++ value) × (after ≡ taken style max f entries)

-- a field, by the index of the whole field where it has one
abbrev pub IsFieldAs : Style → ℕ → Field → List Field → Option ℕ → List ℕ → List Field → Type 0
IsFieldAs style max f entries (Some i) out after = (out ≡ integer_text 128 7 i) × (after ≡ entries)
IsFieldAs style max f entries None out after = IsLiteral style max f entries out after

abbrev pub IsFieldText : Style → ℕ → Field → List Field → List ℕ → List Field → Type 0
IsFieldText style max f entries out after = IsFieldAs style max f entries (index_of style true f entries) out after

-- fields, one after another
abbrev pub AreFieldTexts : Style → ℕ → List Field → List Field → List ℕ → List Field → Type 0
AreFieldTexts style max [] entries out after = (out ≡ []) × (after ≡ entries)
AreFieldTexts style max (f ∷ fs) entries out after =
    (first : List ℕ) × (more : List ℕ) × (between : List Field) × IsFieldText style max f entries first between
    × AreFieldTexts style max fs between more after × (out ≡ first ++ more)

-- ---- blocks

-- what contracts see of a `HeaderEncoder`
pub record Encoder : Type 0 where
  pub style : Style
  -- the newest first
  pub entries : List Field
  pub max : ℕ
  -- whether the next block tells the peer that the table became smaller
  pub is_lowered : Bool

-- the table holds 4,096 bytes at first
abbrev pub fresh : Style → Encoder
fresh style = record { style = style; entries = []; max = 4096; is_lowered = false }

-- after the peer announced a size; the table is never raised again
abbrev pub limited : ℕ → Encoder → Encoder
limited size e = if nat_lt size e.max then record { style = e.style; entries = fitting size e.entries; max = size; is_lowered = true } else e

-- the size update that is due
abbrev pub update_text : Bool → ℕ → List ℕ
update_text false max = []
update_text true max = integer_text 32 5 max

-- a block: a size update where one is due, then its fields
pub record Writes (old : Encoder) (fields : List Field) (out : List ℕ) (new : Encoder) : Type 0 where
  pub text : List ℕ
  pub fields_are : AreFieldTexts old.style old.max fields old.entries text new.entries
  pub out_is : out ≡ update_text old.is_lowered old.max ++ text
  pub style_is : new.style ≡ old.style
  pub max_is : new.max ≡ old.max
  pub lowered_is : new.is_lowered ≡ false
