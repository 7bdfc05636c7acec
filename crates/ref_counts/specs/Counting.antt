-- How often keys are referred to (gRIBI: an entry that another one refers to may not be deleted).
use Rattle.std.specs.Prelude.{◌≡◌, ℕ, ◌+◌, ◌<◌, ◌≤◌, ◌^◌, Bool, true, false, ◌&&◌, List, [], ◌∷◌, map, nat_eq, option_map, option_to_list, Option, Some, None, if◌then◌else◌}
use Rattle.std.specs.Bool.{beq}
use Rattle.std.specs.List.{flat_map}
use Rattle.std.specs.Option.{unwrap_or}
use Rattle.std.specs.Map.{lookup}
use Rattle.aft_entries.specs.declared.entry.Entry.{Entry}
use Rattle.aft_entries.specs.declared.entry.Payload.{Payload}
use Rattle.aft_entries.specs.declared.entry.Payload.TheVariants.{Hop, Group, Route}
use Rattle.aft_entries.specs.declared.lists.Member.{Member}
use Rattle.aft_entries.specs.declared.key.Key.{Key}
use Rattle.aft_entries.specs.declared.key.KeyName.{KeyName}
use Rattle.aft_entries.specs.declared.key.KeyName.TheVariants as name
use Rattle.aft_entries.specs.Order.{key_eq}
use Rattle.aft_entries.specs.References.{payload_refs, refs_of, hop_key, group_key}
use Rattle.ref_counts.specs.declared.places.Place.{Place}
use Rattle.ref_counts.specs.declared.places.Counts.{Counts}

-- how often the key stands among these
abbrev pub occurrences : Key → List Key → ℕ
occurrences key [] = 0
occurrences key (k ∷ keys) = (if key_eq key k then 1 else 0) + occurrences key keys

-- what a group refers to: its members' next hops, and its backup
abbrev pub hop_keys : ℕ → List Member → List Key
hop_keys instance members = map (λ member. hop_key instance member.hop) members

abbrev pub backup_keys : ℕ → Option ℕ → List Key
backup_keys instance backup = option_to_list (option_map (group_key instance) backup)

-- the references of a payload, if it is a group's
abbrev pub payload_group_refs : ℕ → Payload → List Key
payload_group_refs instance (Hop hop) = []
payload_group_refs instance (Group group) = payload_refs instance (Group group)
payload_group_refs instance (Route route) = []

-- the references of an entry, if it is a group
unfoldable pub group_refs_of : Entry → List Key
group_refs_of entry = payload_group_refs entry.key.instance entry.payload

-- where a key is counted: no entry refers to a prefix or a label
abbrev pub named_place : ℕ → KeyName → Option Place
named_place instance (name.Hop index) = Some (record { instance = instance; is_group = false; number = index })
named_place instance (name.Group id) = Some (record { instance = instance; is_group = true; number = id })
named_place instance (name.V4 prefix) = None
named_place instance (name.V6 prefix) = None
named_place instance (name.Label label) = None

-- the key that is counted at a place
abbrev pub key_of : Place → Key
key_of place = if place.is_group then group_key place.instance place.number else hop_key place.instance place.number

abbrev pub same_place : Place → Place → Bool
same_place p q = nat_eq p.instance q.instance && (beq p.is_group q.is_group && nat_eq p.number q.number)

abbrev pub not_counted : Counts
not_counted = record { all = 0; by_groups = 0 }

abbrev pub counts_at : Place → List (Place × Counts) → Counts
counts_at place counted = unwrap_or (lookup (same_place place) counted) not_counted

abbrev pub counts_if : Option Place → List (Place × Counts) → Counts
counts_if None counted = not_counted
counts_if (Some place) counted = counts_at place counted

-- how often the key is referred to, and how often by groups
unfoldable pub count_in : List (Place × Counts) → Key → ℕ
count_in counted key = (counts_if (named_place key.instance key.name) counted).all

unfoldable pub group_count_in : List (Place × Counts) → Key → ℕ
group_count_in counted key = (counts_if (named_place key.instance key.name) counted).by_groups

-- one more reference is counted at the place, of a group or of another entry
pub record IsRaised (place : Place) (by_group : Bool) (old new : List (Place × Counts)) : Type 0 where
  pub all : (counts_at place new).all ≡ (counts_at place old).all + 1
  pub by_groups : (counts_at place new).by_groups ≡ (counts_at place old).by_groups + (if by_group then 1 else 0)
  pub others : (q : Place) → same_place place q ≡ false → counts_at q new ≡ counts_at q old

-- the later counts are the earlier ones and these references, some of which are of groups
pub record Adds (old new : List (Place × Counts)) (refs group_refs : List Key) : Type 0 where
  pub all : (key : Key) → count_in new key ≡ count_in old key + occurrences key refs
  pub by_groups : (key : Key) → group_count_in new key ≡ group_count_in old key + occurrences key group_refs

-- no count of these passes 64 bits
pub record Fits (old : List (Place × Counts)) (refs group_refs : List Key) : Type 0 where
  pub all : (key : Key) → count_in old key + occurrences key refs < 2 ^ 64
  pub by_groups : (key : Key) → group_count_in old key + occurrences key group_refs < 2 ^ 64

-- these were counted
pub record Holds (old : List (Place × Counts)) (refs group_refs : List Key) : Type 0 where
  pub all : (key : Key) → occurrences key refs ≤ count_in old key
  pub by_groups : (key : Key) → occurrences key group_refs ≤ group_count_in old key

-- the counts are those of the table's entries
pub record CountsOf (counted : List (Place × Counts)) (table : List Entry) : Type 0 where
  pub all : (key : Key) → count_in counted key ≡ occurrences key (flat_map refs_of table)
  pub by_groups : (key : Key) → group_count_in counted key ≡ occurrences key (flat_map group_refs_of table)
