-- What a watch says where bytes stand on a request, and its call ends.
use Rattle.std.proofs.Common.{◌≡◌, ℕ, ◌+◌, Bool, true, false, List, ◌++◌, Option, Some, None, refl, sym, ap, subst, ◌∙◌, arith}
use Rattle.std.specs.Prelude.{if◌then◌else◌}
use Rattle.h2_exchange.specs.declared.limits.H2Limits.{H2Limits}
use Rattle.h2_exchange.specs.declared.role.Role.{Role}
use Rattle.h2_exchange.specs.Content.{Outcome}
use Rattle.h2_exchange.specs.Exchange.{Step}
use Rattle.h2_exchange.specs.Stops.{request_bytes}
use Rattle.h2_exchange.specs.Streams.{is_begun, is_live}
use Rattle.h2_streams.proofs.Lists.{by_number}
use Rattle.h2_conn.specs.declared.asked.Asked.{Asked}
use Rattle.h2_conn.specs.Watching.{Watch, IsWatched, IsAsked, asked_on, asked_with, found_in, put_by, taken_on, ended_if}
use Rattle.h2_conn.proofs.Requests.{placed_here, placed_there, replaced_here, replaced_there}
use Rattle.h2_conn.proofs.Watched.{cuts, ends}
use Rattle.h2_conn.proofs.Wholes.{asked_more}

here : (k : ℕ) (m : List ℕ) (w : Watch) → asked_on k (taken_on k m w) ≡ Some (asked_with k m (asked_on k w))
here k m w = by (asked_on k w) refl
  where
    by : (o : Option Asked) → asked_on k w ≡ o → found_in k (put_by o k (asked_with k m o) w.asked) ≡ Some (asked_with k m o)
    by None e = placed_here k (asked_with k m None) w.asked refl e
    by (Some a) e = replaced_here k (asked_with k m (Some a)) a w.asked refl e

there : (k id : ℕ) (m : List ℕ) (w : Watch) → (id ≡ k → ⊥) → asked_on id (taken_on k m w) ≡ asked_on id w
there k id m w other = by (asked_on k w)
  where
    by : (o : Option Asked) → found_in id (put_by o k (asked_with k m o) w.asked) ≡ asked_on id w
    by None = placed_there k id (asked_with k m None) w.asked refl other
    by (Some a) = replaced_there k id (asked_with k m (Some a)) w.asked refl other

same_asked : (e : Bool) (id : ℕ) (w : Watch) → asked_on id (ended_if e w) ≡ asked_on id w
same_asked true id w = refl
same_asked false id w = refl

pub same_passed : (e : Bool) (k : ℕ) (m : List ℕ) (w : Watch) → (ended_if e (taken_on k m w)).is_passed ≡ w.is_passed
same_passed true k m w = refl
same_passed false k m w = refl

more_left : (e : Bool) (k : ℕ) (m : List ℕ) (w : Watch) → (ended_if e (taken_on k m w)).left ≡ w.left + (if e then 1 else 0)
more_left true k m w = refl
more_left false k m w = omega arith

pub more_watched : (role : Role) (limits : H2Limits) (heads : List Outcome) (x y : List Step) (k : ℕ) (m : List ℕ) (e : Bool) (w : Watch) → cuts role limits heads y ≡ cuts role limits heads x → ends role limits heads y ≡ ends role limits heads x + (if e then 1 else 0) →
    request_bytes limits heads role y k ≡ request_bytes limits heads role x k ++ m → ((id : ℕ) → (id ≡ k → ⊥) → request_bytes limits heads role y id ≡ request_bytes limits heads role x id) → ((id : ℕ) → is_live role y id ≡ true → is_live role x id ≡ true) →
    is_begun role y k ≡ true → ((id : ℕ) → is_begun role y id ≡ false → is_begun role x id ≡ false) → IsWatched role limits heads x w → IsWatched role limits heads y (ended_if e (taken_on k m w))
more_watched role limits heads x y k m e w c n grows same back begun unborn h = record {
  counts = λ p.
      let q : w.is_passed ≡ false = sym (same_passed e k m w) ∙ p in
      omega (arith, c, n, h.counts q, more_left e k m w);
  requests = λ id live. subst (λ (o : Option Asked). IsAsked (request_bytes limits heads role y id) o) (sym (same_asked e id (taken_on k m w)))
      (by_number (λ (i : ℕ). is_live role y i ≡ true → IsAsked (request_bytes limits heads role y i) (asked_on i (taken_on k m w))) k id
      (λ s l. rw (s, grows, here k m w) (asked_more k (request_bytes limits heads role x k) m (asked_on k w) (h.requests k (back k (ap (is_live role y) (sym s) ∙ l)))))
      (λ other l. rw (there k id m w other, same id other) (h.requests id (back id l)))
      live);
  idle = λ id none.
      let other : id ≡ k → ⊥ = λ s. let t : is_begun role y id ≡ true = ap (is_begun role y) s ∙ begun in let u : true ≡ false = sym t ∙ none in absurd cc in
      let i = h.idle id (unborn id none) in
      (same id other ∙ i.0, same_asked e id (taken_on k m w) ∙ there k id m w other ∙ i.1);
}
