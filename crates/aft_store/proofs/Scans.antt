-- What scans of a table and of an entry's references say.
use Rattle.std.proofs.Common.{◌≡◌, ℕ, zero, suc, ◌+◌, Bool, true, false, List, [], ◌∷◌, take, map, Some, refl, sym, ap, ◌∙◌}
use Rattle.std.specs.Prelude.{◌||◌, ◌&&◌, slice_get, option_to_list, option_map}
use Rattle.std.specs.List.{list_any, list_all}
use Rattle.std.proofs.lemmas.List.Folds.{list_any_more, list_all-append, list_all-map}
use Rattle.std.proofs.lemmas.Option.{slice_get_within, get_or_from_slice_get}
use Rattle.aft_entries.specs.declared.entry.Entry.{Entry}
use Rattle.aft_entries.specs.declared.entry.Payload.{Payload}
use Rattle.aft_entries.specs.declared.entry.GroupPayload.{GroupPayload}
use Rattle.aft_entries.specs.declared.entry.Payload.TheVariants.{Group}
use Rattle.aft_entries.specs.declared.key.Key.{Key}
use Rattle.aft_entries.specs.References.{payload_refs, hop_key, group_key}
use Rattle.aft_entries.proofs.Referring.{refs_by_payload}
use Rattle.table_model.specs.Table as spec

unwrap_some : {X : Type 0} (x y : X) → Some x ≡ Some y → x ≡ y
unwrap_some x y e = cc

or_true : (b : Bool) → b || true ≡ true
or_true true = refl
or_true false = refl

-- one more entry of a scan
pub scan_more : (p : Entry → Bool) (table : List Entry) (n : ℕ) (e : Entry) → slice_get table n ≡ Some e → list_any p (take n table) ≡ false → p e ≡ false → list_any p (take (n + 1) table) ≡ false
scan_more p table n e is so_far here =
    list_any_more p table n e (slice_get_within table n e is) ∙ rw (so_far, get_or_from_slice_get table n e e is, here) refl

pub scan_found : (p : Entry → Bool) (table : List Entry) (n : ℕ) (e : Entry) → slice_get table n ≡ Some e → p e ≡ true → list_any p table ≡ true
scan_found p [] n e is here = cc
scan_found p (x ∷ table) zero e is here = rw (unwrap_some x e is, here) refl
scan_found p (x ∷ table) (suc n) e is here = rw (scan_found p table n e is here) (or_true (p x))

pub resolves_by_payload : (table : List Entry) (e : Entry) (payload : Payload) → e.payload ≡ payload → spec.resolves table e ≡ list_all (spec.has table) (payload_refs e.key.instance payload)
unfolding spec.resolves
resolves_by_payload table e payload same = ap (list_all (spec.has table)) (refs_by_payload e payload same)

pub group_all : (has : Key → Bool) (instance : ℕ) (group : GroupPayload) → list_all has (payload_refs instance (Group group)) ≡ list_all (λ member. has (hop_key instance member.hop)) group.members && list_all has (option_to_list (option_map (group_key instance) group.backup))
group_all has instance group =
    list_all-append has (map (λ member. hop_key instance member.hop) group.members) (option_to_list (option_map (group_key instance) group.backup))
    ∙ ap (λ b. b && list_all has (option_to_list (option_map (group_key instance) group.backup))) (list_all-map has (λ member. hop_key instance member.hop) group.members)

pub and_true : (b : Bool) → b && true ≡ b
and_true true = refl
and_true false = refl

-- by the members, and then by the backup
module _ (has : Key → Bool) (instance : ℕ) (group : GroupPayload) (members : Bool) (is : members ≡ list_all (λ member. has (hop_key instance member.hop)) group.members) where
  pub all_members : (backup : Bool) → backup ≡ list_all has (option_to_list (option_map (group_key instance) group.backup)) → members ≡ true → backup ≡ list_all has (payload_refs instance (Group group))
  all_members backup same found = same ∙ sym (group_all has instance group ∙ rw (← is, found) refl)

  pub not_all_members : members ≡ false → members ≡ list_all has (payload_refs instance (Group group))
  not_all_members missing = missing ∙ sym (group_all has instance group ∙ rw (← is, missing) refl)
