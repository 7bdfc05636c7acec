-- Each reference of the table is there: kept by what is put with its references there, and by taking out what nothing refers to.
use Rattle.std.proofs.Common.{◌≡◌, Bool, true, false, List, [], ◌∷◌, refl, ap, ◌∙◌}
use Rattle.std.specs.Prelude.{not, ◌&&◌, ◌||◌, filter, is_some}
use Rattle.std.specs.List.{list_all, list_any}
use Rattle.std.proofs.lemmas.List.Folds.{list_all-append}
use Rattle.aft_entries.specs.declared.entry.Entry.{Entry}
use Rattle.aft_entries.specs.declared.key.Key.{Key}
use Rattle.aft_entries.specs.Order.{key_eq}
use Rattle.aft_entries.specs.References.{refs_of, is_among, refers}
use Rattle.aft_entries.proofs.OrderLemmas.{key_eq_same, key_eq_symm}
use Rattle.table_model.specs.Table.{lookup, has, put, take_out, resolves, used}
use Rattle.table_model.specs.Laws.{is_closed}
use Rattle.table_model.proofs.Tests.{and_left, and_right, and_both, all_weaken, all_filter}
use Rattle.table_model.proofs.TableLemmas.{is_before, is_after}
use Rattle.table_model.proofs.LookupLemmas.{lookup_put_same, lookup_put_other, lookup_take_out_other}

has_put_by : (e : Entry) (table : List Entry) (key : Key) (b : Bool) → key_eq key e.key ≡ b → has table key ≡ true → has (put e table) key ≡ true
has_put_by e table key true is h = ap (λ k. is_some (lookup k (put e table))) (key_eq_same key e.key is) ∙ ap is_some (lookup_put_same e table)
has_put_by e table key false is h = ap is_some (lookup_put_other key e table is) ∙ h

-- what was there stays where an entry is put
pub has_put : (e : Entry) (table : List Entry) (key : Key) → has table key ≡ true → has (put e table) key ≡ true
has_put e table key h = has_put_by e table key (key_eq key e.key) refl h

pub resolves_put : (e x : Entry) (table : List Entry) → resolves table x ≡ true → resolves (put e table) x ≡ true
unfolding resolves
resolves_put e x table h = all_weaken (has table) (has (put e table)) (refs_of x) (λ k there. has_put e table k there) h

pub all_put : (p : Entry → Bool) (e : Entry) (table : List Entry) → list_all p table ≡ true → p e ≡ true → list_all p (put e table) ≡ true
unfolding put
all_put p e table h here = list_all-append p (filter (is_before e.key) table) (e ∷ filter (is_after e.key) table)
    ∙ and_both (list_all p (filter (is_before e.key) table)) (p e && list_all p (filter (is_after e.key) table)) (all_filter p (is_before e.key) table h) (and_both (p e) (list_all p (filter (is_after e.key) table)) here (all_filter p (is_after e.key) table h))

pub closed_put : (e : Entry) (table : List Entry) → is_closed table ≡ true → resolves table e ≡ true → is_closed (put e table) ≡ true
closed_put e table h here = all_put (resolves (put e table)) e table (all_weaken (resolves table) (resolves (put e table)) table (λ x k. resolves_put e x table k) h) (resolves_put e e table here)

pub or_left : (a b : Bool) → a || b ≡ false → a ≡ false
or_left true b h = cc
or_left false b h = refl

pub or_right : (a b : Bool) → a || b ≡ false → b ≡ false
or_right true b h = cc
or_right false b h = h

pub not_true : (b : Bool) → not b ≡ true → b ≡ false
not_true true h = cc
not_true false h = refl

pub all_taken : (p : Entry → Bool) (key : Key) (table : List Entry) → list_all p table ≡ true → list_all p (take_out key table) ≡ true
unfolding take_out
all_taken p key table h = all_filter p (λ e. not (key_eq key e.key)) table h

pub not_among : (key : Key) (keys : List Key) → is_among key keys ≡ false → list_all (λ k. not (key_eq k key)) keys ≡ true
not_among key [] h = refl
not_among key (k ∷ keys) h = and_both (not (key_eq k key)) (list_all (λ x. not (key_eq x key)) keys) (ap not (key_eq_symm k key ∙ or_left (key_eq key k) (is_among key keys) h)) (not_among key keys (or_right (key_eq key k) (is_among key keys) h))

pub not_used : (key : Key) (table : List Entry) → list_any (λ e. refers e key) table ≡ false → list_all (λ e. not (refers e key)) table ≡ true
not_used key [] h = refl
not_used key (e ∷ table) h = and_both (not (refers e key)) (list_all (λ x. not (refers x key)) table) (ap not (or_left (refers e key) (list_any (λ x. refers x key) table) h)) (not_used key table (or_right (refers e key) (list_any (λ x. refers x key) table) h))

all_both : {X : Type 0} (p q : X → Bool) (xs : List X) → list_all p xs ≡ true → list_all q xs ≡ true → list_all (λ x. p x && q x) xs ≡ true
all_both p q [] h k = refl
all_both p q (x ∷ xs) h k = and_both (p x && q x) (list_all (λ y. p y && q y) xs) (and_both (p x) (q x) (and_left (p x) (list_all p xs) h) (and_left (q x) (list_all q xs) k)) (all_both p q xs (and_right (p x) (list_all p xs) h) (and_right (q x) (list_all q xs) k))

pub resolves_take_out : (key : Key) (table : List Entry) (x : Entry) → resolves table x ≡ true → refers x key ≡ false → resolves (take_out key table) x ≡ true
unfolding resolves
resolves_take_out key table x h apart =
    all_weaken (λ k. has table k && not (key_eq k key)) (has (take_out key table)) (refs_of x)
    (λ k both. ap is_some (lookup_take_out_other k key table (not_true (key_eq k key) (and_right (has table k) (not (key_eq k key)) both))) ∙ and_left (has table k) (not (key_eq k key)) both)
    (all_both (has table) (λ k. not (key_eq k key)) (refs_of x) h (not_among key (refs_of x) apart))

pub closed_take_out : (key : Key) (table : List Entry) → is_closed table ≡ true → used table key ≡ false → is_closed (take_out key table) ≡ true
unfolding used
closed_take_out key table h free =
    let each = all_weaken (λ x. resolves table x && not (refers x key)) (resolves (take_out key table)) table
    (λ x both. resolves_take_out key table x (and_left (resolves table x) (not (refers x key)) both) (not_true (refers x key) (and_right (resolves table x) (not (refers x key)) both)))
    (all_both (resolves table) (λ x. not (refers x key)) table h (not_used key table free)) in
    all_taken (resolves (take_out key table)) key table each
