-- The reset of a live stream.
use Rattle.std.proofs.Common.{◌≡◌, ℕ, ◌+◌, ◌-◌, Bool, true, false, ◌||◌, ◌&&◌, List, [], ◌∷◌, ◌++◌, Option, Some, None, refl, sym, ap, ◌∙◌, arith}
use Rattle.std.specs.Prelude.{not, nat_lt, find, filter, ◌==◌, if◌then◌else◌}
use Rattle.std.proofs.lemmas.Bool.Decides.{nat_tests}
use Rattle.h2_frames.specs.declared.frame.Frame.TheVariants.{RstStream}
use Rattle.h2_frames.specs.declared.frame.FrameBody.{FrameBody}
use Rattle.h2_exchange.specs.declared.limits.H2Limits.{H2Limits}
use Rattle.h2_exchange.specs.declared.limits.CalmCause.TheVariants.{Resets}
use Rattle.h2_exchange.specs.declared.role.Role.{Role}
use Rattle.h2_exchange.specs.declared.role.Role.TheVariants.{Client, Server}
use Rattle.h2_exchange.specs.Blocks.{open_block}
use Rattle.h2_exchange.specs.Content.{Outcome}
use Rattle.h2_exchange.specs.Exchange.{Step, Sent, sent}
use Rattle.h2_exchange.specs.Stops.{Stop, Calm, stop_of, has_request, ends_call, cuts_request, request_bytes}
use Rattle.h2_exchange.specs.Streams.{is_begun, is_live}
use Rattle.h2_exchange.proofs.Staying.{stop_stays}
use Rattle.h2_streams.proofs.Lists.{eqb_is, isnt, by_number}
use Rattle.h2_streams.proofs.Resets.{live_same, now_dead}
use Rattle.h2_conn.specs.declared.asked.Asked.{Asked}
use Rattle.h2_conn.specs.Watching.{Watch, IsWatched, IsAsked, asked_on, is_whole, without, cut_on, cut_if, stop_by}
use Rattle.h2_conn.proofs.Sounds.{none_completed}
use Rattle.h2_conn.proofs.Watched.{unbegun, count_push, quiet_count, stop_sent, by_counts, bytes_sent, cuts, ends}
use Rattle.h2_conn.proofs.Wholes.{whole_says}

-- ---- what is asked of other streams stays

module _ {X : Type 0} (p q : X → Bool) (apart : (x : X) → p x ≡ true → q x ≡ true) where
  found_by : (x : X) (rest part : List X) (a b : Bool) → p x ≡ a → q x ≡ b → find p part ≡ find p rest → find p (if b then x ∷ part else part) ≡ find p (x ∷ rest)
  found_by x rest part a true e f same = ap (λ (o : Option X). if p x then Some x else o) same
  found_by x rest part false false e f same = same ∙ sym (ap (λ (b : Bool). if b then Some x else find p rest) e)
  found_by x rest part true false e f same = let g : q x ≡ true = apart x e in absurd cc

  pub found_apart : (xs : List X) → find p (filter q xs) ≡ find p xs
  found_apart [] = refl
  found_apart (x ∷ xs) = found_by x xs (filter q xs) (p x) (q x) refl refl (found_apart xs)

pub asked_apart : (k id : ℕ) (w : Watch) → (id ≡ k → ⊥) → find (λ (a : Asked). a.id == id) (without k w.asked) ≡ asked_on id w
asked_apart k id w other =
    found_apart (λ (a : Asked). a.id == id) (λ (a : Asked). not (a.id == k))
    (λ a e. ap not (isnt k a.id (λ same. other (sym (eqb_is a.id id e) ∙ same)))) w.asked

-- ---- the counts

module _ (role : Role) (limits : H2Limits) (heads : List Outcome) (x : List Step) (k : ℕ) (b : FrameBody) (on : b.stream ≡ k) (closed : open_block (sent x) ≡ None) (begun : is_begun role x k ≡ true) where
  abbrev after : List Step
  after = x ++ Sent (RstStream b) ∷ []

  ends_none : (side : Role) → ends_call limits heads side x (Sent (RstStream b)) ≡ false
  ends_none Server = refl
  ends_none Client = rw (none_completed x (RstStream b) closed refl) refl

  cuts_one : (w : Watch) → IsAsked (request_bytes limits heads role x k) (asked_on k w) → cuts_request role limits heads x (Sent (RstStream b)) ≡ not (is_whole (asked_on k w))
  cuts_one w says =
      ap (λ (id : ℕ). is_begun role x id && not (has_request role limits heads x id)) on
      ∙ ap (λ (t : Bool). t && not (has_request role limits heads x k)) begun
      ∙ ap not (whole_says (request_bytes limits heads role x k) (asked_on k w) says)

  requests_stay : (w v : Watch) → v.asked ≡ without k w.asked → IsWatched role limits heads x w → (id : ℕ) → is_live role after id ≡ true → IsAsked (request_bytes limits heads role after id) (asked_on id v)
  requests_stay w v e h id alive = by_number (λ (n : ℕ). is_live role after n ≡ true → IsAsked (request_bytes limits heads role after n) (asked_on n v)) k id
      (λ same q. let dead : is_live role after id ≡ false = ap (is_live role after) same ∙ now_dead role limits x b k on in absurd cc)
      (λ other q. rw (bytes_sent role limits heads x (RstStream b) id refl, e, asked_apart k id w other) (h.requests id (sym (live_same role limits x b k id on other) ∙ q)))
      alive

  -- where the limit was passed before
  passed : (w : Watch) (stop : Stop) → stop_of role limits heads x ≡ Some stop → stop_of role limits heads after ≡ Some stop
  passed w stop e = stop_stays role limits heads x (Sent (RstStream b) ∷ []) stop e

  counted : (whole : Bool) (left : ℕ) → stop_of role limits heads x ≡ None → left + cuts role limits heads x ≡ 1000 + ends role limits heads x →
      cuts_request role limits heads x (Sent (RstStream b)) ≡ not whole →
      (w : Watch) → w.left ≡ left → w.is_passed ≡ false →
      (stop_of role limits heads after ≡ stop_by (cut_if whole w).is_passed) × ((cut_if whole w).is_passed ≡ false → (cut_if whole w).left + cuts role limits heads after ≡ 1000 + ends role limits heads after)
  counted true left none count cut w l p =
      let c : cuts role limits heads after ≡ cuts role limits heads x = quiet_count role limits heads (cuts_request role limits heads) x (Sent (RstStream b)) cut in
      let e : ends role limits heads after ≡ ends role limits heads x = quiet_count role limits heads (ends_call limits heads role) x (Sent (RstStream b)) (ends_none role) in
      let k : left + cuts role limits heads after ≡ 1000 + ends role limits heads after = omega (arith, c, e, count) in (
        stop_sent role limits heads x (RstStream b) none ∙ by_counts role limits heads left 0 after k ∙ sym (ap stop_by p),
        λ q. omega (arith, k, l),
      )
  counted false left none count cut w l p =
      let c : cuts role limits heads after ≡ cuts role limits heads x + 1 = count_push (cuts_request role limits heads) x (Sent (RstStream b)) ∙ ap (λ (t : Bool). cuts role limits heads x + (if t then 1 else 0)) cut in
      let e : ends role limits heads after ≡ ends role limits heads x = quiet_count role limits heads (ends_call limits heads role) x (Sent (RstStream b)) (ends_none role) in
      let test : nat_lt (1000 + ends role limits heads after) (cuts role limits heads after) ≡ (left == 0) = tests left (cuts role limits heads x) (ends role limits heads x) (cuts role limits heads after) (ends role limits heads after) c e count in (
        stop_sent role limits heads x (RstStream b) none ∙ ap (λ (t : Bool). if t then Some (Calm Resets) else None) test ∙ by (left == 0) ∙ ap (λ (t : Bool). stop_by (t || left == 0)) (sym p)
            ∙ ap (λ (n : ℕ). stop_by (w.is_passed || n == 0)) (sym l),
        λ q. grown left (cuts role limits heads x) (ends role limits heads x) (cuts role limits heads after) (ends role limits heads after) w.left c e count l (second w.is_passed (w.left == 0) q),
      )
    where
      by : (t : Bool) → (if t then Some (Calm Resets) else None) ≡ stop_by (false || t)
      by true = refl
      by false = refl

      second : (a d : Bool) → (a || d) ≡ false → d ≡ false
      second true d e = absurd cc
      second false d e = e

      tests : (n c e c2 e2 : ℕ) → c2 ≡ c + 1 → e2 ≡ e → n + c ≡ 1000 + e → nat_lt (1000 + e2) c2 ≡ (n == 0)
      tests n c e c2 e2 p q r = grind (arith, nat_tests)

      grown : (n c e c2 e2 m : ℕ) → c2 ≡ c + 1 → e2 ≡ e → n + c ≡ 1000 + e → m ≡ n → (m == 0) ≡ false → m - 1 + c2 ≡ 1000 + e2
      grown n c e c2 e2 m p q r s t = grind (arith, nat_tests)

  idle_stays : (w v : Watch) → v.asked ≡ without k w.asked → IsWatched role limits heads x w → (id : ℕ) → is_begun role after id ≡ false → (request_bytes limits heads role after id ≡ []) × (asked_on id v ≡ None)
  idle_stays w v e h id none =
      let unborn : is_begun role x id ≡ false = unbegun role x (Sent (RstStream b)) id none in
      let other : id ≡ k → ⊥ = λ s. let t : is_begun role x id ≡ true = ap (is_begun role x) s ∙ begun in let u : true ≡ false = sym t ∙ unborn in absurd cc in
      let i = h.idle id unborn in
      (bytes_sent role limits heads x (RstStream b) id refl ∙ i.0, ap (λ (l : List Asked). find (λ (a : Asked). a.id == id) l) e ∙ asked_apart k id w other ∙ i.1)

  cut_by : (w : Watch) (passed_now : Bool) → IsAsked (request_bytes limits heads role x k) (asked_on k w) → w.is_passed ≡ passed_now → stop_of role limits heads x ≡ stop_by passed_now → IsWatched role limits heads x w →
      IsWatched role limits heads after (cut_on k w) × (stop_of role limits heads after ≡ stop_by (cut_on k w).is_passed)
  cut_by w false says p stop h =
      let r = counted (is_whole (asked_on k w)) w.left stop (h.counts p) (cuts_one w says) w refl p in (
        record {
          counts = same_counts (is_whole (asked_on k w)) w r.1;
          requests = requests_stay w (cut_on k w) (same_asked (is_whole (asked_on k w)) w) h;
          idle = idle_stays w (cut_on k w) (same_asked (is_whole (asked_on k w)) w) h;
        },
        r.0 ∙ ap stop_by (same_passed (is_whole (asked_on k w)) w),
      )
    where
      same_passed : (t : Bool) (v : Watch) → (cut_if t v).is_passed ≡ (record (cut_if t v) { asked = without k (cut_if t v).asked }).is_passed
      same_passed t v = refl

      same_asked : (t : Bool) (v : Watch) → without k (cut_if t v).asked ≡ without k v.asked
      same_asked true v = refl
      same_asked false v = refl

      same_counts : (t : Bool) (v : Watch) → ((cut_if t v).is_passed ≡ false → (cut_if t v).left + cuts role limits heads after ≡ 1000 + ends role limits heads after) →
          (cut_if t v).is_passed ≡ false → (cut_if t v).left + cuts role limits heads after ≡ 1000 + ends role limits heads after
      same_counts t v k = k
  cut_by w true says p stop h = (
    record {
      counts = λ q. let no : true ≡ false = sym (still (is_whole (asked_on k w)) w p) ∙ q in absurd cc;
      requests = requests_stay w (cut_on k w) (same_asked (is_whole (asked_on k w)) w) h;
      idle = idle_stays w (cut_on k w) (same_asked (is_whole (asked_on k w)) w) h;
    },
    passed w (Calm Resets) stop ∙ sym (ap stop_by (still (is_whole (asked_on k w)) w p)),
  )
    where
      still : (t : Bool) (v : Watch) → v.is_passed ≡ true → (cut_if t v).is_passed ≡ true
      still true v e = e
      still false v e = ap (λ (a : Bool). a || v.left == 0) e

      same_asked : (t : Bool) (v : Watch) → without k (cut_if t v).asked ≡ without k v.asked
      same_asked true v = refl
      same_asked false v = refl

  pub cut_watched : (w : Watch) → IsAsked (request_bytes limits heads role x k) (asked_on k w) → stop_of role limits heads x ≡ stop_by w.is_passed → IsWatched role limits heads x w →
      IsWatched role limits heads after (cut_on k w) × (stop_of role limits heads after ≡ stop_by (cut_on k w).is_passed)
  cut_watched w says stop h = cut_by w w.is_passed says refl stop h
