-- No entry refers to a prefix or to a label.
use Rattle.std.proofs.Common.{◌≡◌, ℕ, Bool, true, false, List, [], ◌∷◌, Some, None, Option, refl, ◌∙◌}
use Rattle.std.specs.Prelude.{option_map, option_to_list}
use Rattle.std.specs.List.{list_any}
use Rattle.std.specs.declared.cmp.Ordering.{Ordering}
use Rattle.std.specs.declared.cmp.Ordering.TheVariants.{Less, Equal, Greater}
use Rattle.std.specs.Ordering.{ordering_then, nat_cmp, is_eq}
use Rattle.aft_entries.specs.declared.entry.Entry.{Entry}
use Rattle.aft_entries.specs.declared.entry.Payload.{Payload}
use Rattle.aft_entries.specs.declared.entry.Payload.TheVariants.{Hop, Group, Route}
use Rattle.aft_entries.specs.declared.key.Key.{Key}
use Rattle.aft_entries.specs.declared.key.KeyName.{KeyName}
use Rattle.aft_entries.specs.declared.key.KeyName.TheVariants as name
use Rattle.aft_entries.specs.Order.{key_cmp, key_eq, name_cmp}
use Rattle.aft_entries.specs.References.{refs_of, payload_refs, is_among, refers, hop_key, group_key}
use Rattle.aft_entries.proofs.Referring.{group_among}
use Rattle.table_model.specs.Table.{used}

-- what entries refer to
abbrev pub is_referable : KeyName → Bool
is_referable (name.Hop index) = true
is_referable (name.Group id) = true
is_referable (name.V4 prefix) = false
is_referable (name.V6 prefix) = false
is_referable (name.Label label) = false

then_apart : (o p : Ordering) → is_eq p ≡ false → is_eq (ordering_then o p) ≡ false
then_apart Less p h = refl
then_apart Equal p h = h
then_apart Greater p h = refl

not_hop : (a : KeyName) (index : ℕ) → is_referable a ≡ false → is_eq (name_cmp a (name.Hop index)) ≡ false
not_hop (name.Hop i) index h = cc
not_hop (name.Group i) index h = cc
not_hop (name.V4 p) index h = refl
not_hop (name.V6 p) index h = refl
not_hop (name.Label l) index h = refl

not_group : (a : KeyName) (id : ℕ) → is_referable a ≡ false → is_eq (name_cmp a (name.Group id)) ≡ false
not_group (name.Hop i) id h = cc
not_group (name.Group i) id h = cc
not_group (name.V4 p) id h = refl
not_group (name.V6 p) id h = refl
not_group (name.Label l) id h = refl

any_none : {X : Type 0} (p : X → Bool) (xs : List X) → ((x : X) → p x ≡ false) → list_any p xs ≡ false
any_none p [] h = refl
any_none p (x ∷ xs) h = rw (h x, any_none p xs h) refl

module _ (key : Key) (h : is_referable key.name ≡ false) where
  apart_hop : (instance index : ℕ) → key_eq key (hop_key instance index) ≡ false
  unfolding key_cmp
  apart_hop instance index = then_apart (nat_cmp key.instance instance) (name_cmp key.name (name.Hop index)) (not_hop key.name index h)

  apart_group : (instance id : ℕ) → key_eq key (group_key instance id) ≡ false
  unfolding key_cmp
  apart_group instance id = then_apart (nat_cmp key.instance instance) (name_cmp key.name (name.Group id)) (not_group key.name id h)

  not_backup : (instance : ℕ) (backup : Option ℕ) → is_among key (option_to_list (option_map (group_key instance) backup)) ≡ false
  not_backup instance None = refl
  not_backup instance (Some id) = rw (apart_group instance id) refl

  not_among : (instance : ℕ) (payload : Payload) → is_among key (payload_refs instance payload) ≡ false
  not_among instance (Hop hop) = refl
  not_among instance (Group group) =
      group_among key instance group ∙ rw (any_none (λ member. key_eq key (hop_key instance member.hop)) group.members (λ member. apart_hop instance member.hop), not_backup instance group.backup) refl
  not_among instance (Route route) = rw (apart_group route.instance route.group) refl

  not_referred : (entry : Entry) → refers entry key ≡ false
  unfolding refs_of
  not_referred entry = not_among entry.key.instance entry.payload

  pub never_used : (table : List Entry) → used table key ≡ false
  unfolding used
  never_used table = any_none (λ e. refers e key) table not_referred
