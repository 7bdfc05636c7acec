-- Chains of backups, group by group, and the longest of them entry by entry.
use Rattle.std.proofs.Common.{◌≡◌, ◌≢◌, ℕ, ◌+◌, ◌-◌, ◌≤◌, Bool, true, false, List, [], ◌∷◌, take, Some, None, Option, refl, sym, ap, ◌∙◌, arith}
use Rattle.std.specs.Prelude.{max, fold, find, cond, slice_get, option_map, option_and_then, if◌then◌else◌}
use Rattle.std.proofs.lemmas.Bool.Decides.{nat_tests}
use Rattle.std.proofs.lemmas.List.Sums.{fold_more}
use Rattle.std.proofs.lemmas.Option.{slice_get_within, get_or_from_slice_get}
use Rattle.aft_entries.specs.declared.entry.Entry.{Entry}
use Rattle.aft_entries.specs.declared.entry.Payload.{Payload}
use Rattle.aft_entries.specs.declared.key.Key.{Key}
use Rattle.aft_entries.specs.Order.{key_eq}
use Rattle.aft_entries.proofs.OrderLemmas.{key_eq_same}
use Rattle.table_model.specs.Table.{lookup, above, names_key, backup_of, payload_backup}

unwrap_some : {X : Type 0} (x y : X) → Some x ≡ Some y → x ≡ y
unwrap_some x y e = cc

found_passes : (p : Entry → Bool) (table : List Entry) (e : Entry) → find p table ≡ Some e → p e ≡ true
found_passes p [] e is = cc
found_passes p (x ∷ table) e is = by_test (p x) refl (found_passes p table e) is
  where
    by_test : (b : Bool) → p x ≡ b → (find p table ≡ Some e → p e ≡ true) → cond b (Some x) (find p table) ≡ Some e → p e ≡ true
    by_test true h further k = rw (← unwrap_some x e k) h
    by_test false h further k = further k

found_key : (key : Key) (table : List Entry) (e : Entry) → lookup key table ≡ Some e → key ≡ e.key
unfolding lookup
found_key key table e is = key_eq_same key e.key (found_passes (λ x. key_eq key x.key) table e is)

-- the payload that a key has tells of the backup of its entry
pub next_found : (key : Key) (table : List Entry) (payload : Payload) (backup : Option Key) → Some payload ≡ option_map (λ (e : Entry). e.payload) (lookup key table) → backup ≡ payload_backup key.instance payload → backup ≡ option_and_then backup_of (lookup key table)
unfolding backup_of
next_found key table payload backup is says = by_found (lookup key table) refl is
  where
    by_found : (found : Option Entry) → lookup key table ≡ found → Some payload ≡ option_map (λ (e : Entry). e.payload) found → backup ≡ option_and_then backup_of found
    by_found None h k = cc
    by_found (Some e) h k = says ∙ ap (payload_backup key.instance) (unwrap_some payload e.payload k) ∙ ap (λ (x : Key). payload_backup x.instance e.payload) (found_key key table e h)

-- one more entry whose backup may be the group
abbrev pub longer : ℕ → List Entry → Key → ℕ → Entry → ℕ
longer n table group most e = if names_key group (backup_of e) then max most (1 + above n table e.key) else most

-- the longest chain to the group through the entries so far
pub record IsLongest (table : List Entry) (group : Key) (most longest n : ℕ) : Type 0 where
  pub is : longest ≡ fold (longer (most - 1) table group) 0 (take n table)
  pub bound : longest ≤ most

module _ (table : List Entry) (group : Key) (most longest n : ℕ) (e : Entry) (so_far : IsLongest table group most longest n) (is : slice_get table n ≡ Some e) (some : most ≢ 0) where
  with_this : fold (longer (most - 1) table group) 0 (take (n + 1) table) ≡ longer (most - 1) table group longest e
  with_this = fold_more (longer (most - 1) table group) 0 table n e (slice_get_within table n e is) ∙ rw (get_or_from_slice_get table n e e is, ← so_far.is) refl

  -- an entry whose backup is the group, with the longest chain to that entry
  pub goes_on : names_key group (backup_of e) ≡ true → (further : ℕ) → further ≡ above (most - 1) table e.key → further ≤ most - 1 → IsLongest table group most (max longest (1 + further)) (n + 1)
  goes_on here further same least = record {
    is = sym (with_this ∙ rw (here, ← same) refl);
    bound = let so = so_far.bound in grind (arith, nat_tests, some);
  }

  pub goes_by : names_key group (backup_of e) ≡ false → IsLongest table group most longest (n + 1)
  goes_by here = record { is = sym (with_this ∙ rw here refl); bound = so_far.bound }
