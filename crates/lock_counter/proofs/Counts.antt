-- A counter's history.
use Rattle.std.proofs.Common.{◌≡◌, ◌≢◌, ℕ, zero, suc, ◌+◌, ◌%◌, ◌^◌, ◌<◌, List, [], ◌∷◌, ◌++◌, sum, Bool, true, false, cond, eqb, eq-eqb, sym, ap, subst, ◌∙◌, refl, arith}
use Rattle.std.proofs.Math.Nat.{mod-eq_of_lt, mod-lt, mod-add-mod, add-zero}
use Rattle.std.proofs.lemmas.List.Sums.{sum_by-cons}
use Rattle.std.proofs.lemmas.List.{map-append}
use mathlib.Core.Option.{some, some-injective, some-ne-none}
use lib.ListN.{get_elem?}
use Rattle.table_lock.specs.declared.machine.Entry.{Entry}
use Rattle.table_lock.specs.declared.view.Item.{Item}
use Rattle.table_lock.specs.Passes.{PassView, IsCalled, IsClosed, item}
use Rattle.table_lock.specs.Lock.{calls_of, entry}
use Rattle.lock_counter.specs.Totals.{total_after, IsLegal, Stands, added}

after_more : (t : ℕ) (log : List (Entry ℕ ℕ)) (e : Entry ℕ ℕ) → total_after t (log ++ e ∷ []) ≡ (total_after t log + e.command) % 2 ^ 64
after_more t [] e = refl
after_more t (x ∷ xs) e = after_more ((t + x.command) % 2 ^ 64) xs e

legal_more : (t : ℕ) (log : List (Entry ℕ ℕ)) (e : Entry ℕ ℕ) → IsLegal t log → e.reply ≡ (total_after t log + e.command) % 2 ^ 64 → IsLegal t (log ++ e ∷ [])
legal_more t [] e h r = (r, tt)
legal_more t (x ∷ xs) e h r = (h.0, legal_more ((t + x.command) % 2 ^ 64) xs e h.1 r)

pub stands_more : (first total by c : ℕ) (log : List (Entry ℕ ℕ)) → Stands first total log → Stands first ((total + c) % 2 ^ 64) (log ++ entry by c ((total + c) % 2 ^ 64) ∷ [])
stands_more first total by c log h =
    let same : (total + c) % 2 ^ 64 ≡ (total_after first log + c) % 2 ^ 64 = ap (λ (x : ℕ). (x + c) % 2 ^ 64) h.total_is in
    record { total_is = same ∙ sym (after_more first log (entry by c ((total + c) % 2 ^ 64))); legal = legal_more first log (entry by c ((total + c) % 2 ^ 64)) h.legal same }

-- the last of a lawful history answered the total
legal_last : (t : ℕ) (log : List (Entry ℕ ℕ)) (e : Entry ℕ ℕ) → IsLegal t (log ++ e ∷ []) → e.reply ≡ total_after t (log ++ e ∷ [])
legal_last t [] e h = h.0
legal_last t (x ∷ xs) e h = legal_last ((t + x.command) % 2 ^ 64) xs e h.1

-- what a call that was answered told its pass
pub told : (setup : ℕ) (p q : PassView ℕ ℕ ℕ) (amount total : ℕ) → IsCalled (λ t log. IsLegal t log) setup p q amount total
    → (q.mine ≡ p.mine ++ entry p.number amount total ∷ []) × (total ≡ total_after setup q.seen) × IsLegal setup q.seen
told setup p q amount total h =
    let last = legal_last setup (p.seen ++ h.between) (entry p.number amount total) (subst (λ (l : List (Entry ℕ ℕ)). IsLegal setup l) h.history h.legal) in
    (h.mine, subst (λ (l : List (Entry ℕ ℕ)). total ≡ total_after setup l) (sym h.history) last, h.legal)

pub added_more : (log mine : List (Entry ℕ ℕ)) (by amount total : ℕ) → mine ≡ log ++ entry by amount total ∷ [] → added mine ≡ added log ++ amount ∷ []
added_more log mine by amount total is = ap added is ∙ map-append (λ (e : Entry ℕ ℕ). e.command) log (entry by amount total ∷ [])

sum_added : (x : Entry ℕ ℕ) (xs : List (Entry ℕ ℕ)) → sum (added (x ∷ xs)) ≡ x.command + sum (added xs)
sum_added x xs = sum_by-cons (λ (n : ℕ). n) x.command (added xs)

-- the total is the sum
after_is_sum : (t : ℕ) (log : List (Entry ℕ ℕ)) → t < 2 ^ 64 → total_after t log ≡ (t + sum (added log)) % 2 ^ 64
after_is_sum t [] low = sym (ap (λ (x : ℕ). x % 2 ^ 64) (add-zero t) ∙ mod-eq_of_lt low)
after_is_sum t (x ∷ xs) low =
    let step : total_after ((t + x.command) % 2 ^ 64) xs ≡ ((t + x.command) % 2 ^ 64 + sum (added xs)) % 2 ^ 64 = after_is_sum ((t + x.command) % 2 ^ 64) xs (mod-lt (t + x.command) (omega arith)) in
    let s : (t + x.command) + sum (added xs) ≡ t + sum (added (x ∷ xs)) = (let e = sum_added x xs in omega arith) in
    step ∙ (mod-add-mod (t + x.command) (2 ^ 64) (sum (added xs)) ∙ ap (λ (n : ℕ). n % 2 ^ 64) s)

pub opened_sum : (opening : ℕ) (xs ys : List ℕ) (total : ℕ) → total ≡ (sum (opening ∷ xs) + sum ys) % 2 ^ 64 → total ≡ (opening + sum xs + sum ys) % 2 ^ 64
opened_sum opening xs ys total e = e ∙ ap (λ (n : ℕ). (n + sum ys) % 2 ^ 64) (sum_by-cons (λ (n : ℕ). n) opening xs)

none_left : (b : Bool) (x : Entry ℕ ℕ) (ys : List (Entry ℕ ℕ)) → cond b (x ∷ ys) ys ≡ [] → ys ≡ []
none_left true x ys e = absurd (cc e)
none_left false x ys e = e

sum_cond : (b : Bool) (x : Entry ℕ ℕ) (ys : List (Entry ℕ ℕ)) → sum (added (cond b (x ∷ ys) ys)) ≡ cond b x.command 0 + sum (added ys)
sum_cond true x ys = sum_added x ys
sum_cond false x ys = omega arith

one_of_three : (n c : ℕ) → (n ≢ 0 → n ≢ 1 → n ≢ 2 → ⊥) → (cond (eqb n 0) c 0 + cond (eqb n 1) c 0) + cond (eqb n 2) c 0 ≡ c
one_of_three zero c other = omega arith
one_of_three (suc zero) c other = omega arith
one_of_three (suc (suc zero)) c other = omega arith
one_of_three (suc (suc (suc k))) c other = absurd (other (λ e. omega arith) (λ e. omega arith) (λ e. omega arith))

-- the sum of a history is that of the calls of three passes, where there are no others
sum_of_three : (log : List (Entry ℕ ℕ)) → ((n : ℕ) → n ≢ 0 → n ≢ 1 → n ≢ 2 → calls_of n log ≡ []) → sum (added log) ≡ (sum (added (calls_of 0 log)) + sum (added (calls_of 1 log))) + sum (added (calls_of 2 log))
sum_of_three [] none = refl
sum_of_three (x ∷ xs) none =
    let rest = sum_of_three xs (λ n a b c. none_left (eqb x.by n) x (calls_of n xs) (none n a b c)) in
    let one = one_of_three x.by x.command (λ a b c. (let e : cond (eqb x.by x.by) (x ∷ calls_of x.by xs) (calls_of x.by xs) ≡ [] = none x.by a b c in
    let t : x ∷ calls_of x.by xs ≡ [] = ap (λ (q : Bool). cond q (x ∷ calls_of x.by xs) (calls_of x.by xs)) (sym (eq-eqb x.by x.by refl)) ∙ e in cc t)) in
    let a = sum_cond (eqb x.by 0) x (calls_of 0 xs) in let b = sum_cond (eqb x.by 1) x (calls_of 1 xs) in let c = sum_cond (eqb x.by 2) x (calls_of 2 xs) in let s = sum_added x xs in omega arith

-- what two passes added is the total
pub counted : (first total : ℕ) (log one two : List (Entry ℕ ℕ)) (xs ys : List ℕ) → first ≡ 0 → Stands first total log → calls_of 0 log ≡ [] → calls_of 1 log ≡ one → calls_of 2 log ≡ two
    → ((n : ℕ) → n ≢ 0 → n ≢ 1 → n ≢ 2 → calls_of n log ≡ []) → added one ≡ xs → added two ≡ ys → total ≡ (sum xs + sum ys) % 2 ^ 64
counted first total log one two xs ys zero_is h none_is one_is two_is others xs_is ys_is =
    let t = sum_of_three log others in
    let a : sum (added (calls_of 0 log)) ≡ 0 = ap (λ (l : List (Entry ℕ ℕ)). sum (added l)) none_is in
    let b : sum (added (calls_of 1 log)) ≡ sum xs = ap (λ (l : List (Entry ℕ ℕ)). sum (added l)) one_is ∙ ap sum xs_is in
    let c : sum (added (calls_of 2 log)) ≡ sum ys = ap (λ (l : List (Entry ℕ ℕ)). sum (added l)) two_is ∙ ap sum ys_is in
    let all : first + sum (added log) ≡ sum xs + sum ys = omega arith in
    h.total_is ∙ (after_is_sum first log (omega arith) ∙ ap (λ (n : ℕ). n % 2 ^ 64) all)

two_items : (a b : PassView ℕ ℕ ℕ) (k : ℕ) (i : Item ℕ ℕ) (n : ℕ) → get_elem? (item a ∷ item b ∷ []) k ≡ some i → n ≢ a.number → n ≢ b.number → i.number ≢ n
two_items a b zero i n e na nb same = na (sym (ap (λ (x : Item ℕ ℕ). x.number) (some-injective (item a) i e) ∙ same))
two_items a b (suc zero) i n e na nb same = nb (sym (ap (λ (x : Item ℕ ℕ). x.number) (some-injective (item b) i e) ∙ same))
two_items a b (suc (suc k)) i n e na nb same = absurd (some-ne-none i (sym e))

-- what the root knows at the end, and so the total
pub counted_by_two : (lock_setup : ℕ) (total first : ℕ) (p : PassView ℕ ℕ ℕ) (a b : PassView ℕ ℕ ℕ) (xs ys : List ℕ) → first ≡ 0 → p.number ≡ 0 → p.mine ≡ [] → p.ended ≡ item a ∷ item b ∷ [] → a.number ≡ 1 → b.number ≡ 2 → added a.mine ≡ xs → added b.mine ≡ ys
    → Stands first total p.seen → IsClosed (λ t log. IsLegal t log) lock_setup p → total ≡ (sum xs + sum ys) % 2 ^ 64
counted_by_two lock_setup total first p a b xs ys zero_is root_is none_is ended_is one two xs_is ys_is stands closed =
    let at0 : get_elem? p.ended 0 ≡ some (item a) = ap (λ (l : List (Item ℕ ℕ)). get_elem? l 0) ended_is in
    let at1 : get_elem? p.ended 1 ≡ some (item b) = ap (λ (l : List (Item ℕ ℕ)). get_elem? l 1) ended_is in
    counted first total p.seen a.mine b.mine xs ys zero_is stands (ap (λ (n : ℕ). calls_of n p.seen) (sym root_is) ∙ (closed.own ∙ none_is)) (ap (λ (n : ℕ). calls_of n p.seen) (sym one) ∙ closed.joined 0 (item a) at0)
    (ap (λ (n : ℕ). calls_of n p.seen) (sym two) ∙ closed.joined 1 (item b) at1)
    (λ n n0 n1 n2. closed.others n (λ e. n0 (e ∙ root_is))
    (λ k i there. two_items a b k i n (subst (λ (l : List (Item ℕ ℕ)). get_elem? l k ≡ some i) ended_is there) (λ e. n1 (e ∙ one)) (λ e. n2 (e ∙ two))))
    xs_is ys_is
