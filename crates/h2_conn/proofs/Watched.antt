-- What a watch says where one more frame is sent.
use Rattle.std.proofs.Common.{◌≡◌, ℕ, ◌+◌, Bool, true, false, ◌||◌, ◌&&◌, List, [], ◌∷◌, ◌++◌, length, length-append, Option, Some, None, refl, sym, ap, subst, ◌∙◌, arith}
use Rattle.std.specs.Prelude.{not, nat_lt, ◌==◌, if◌then◌else◌}
use Rattle.std.specs.Option.{option_or}
use Rattle.std.specs.List.{flat_map}
use Rattle.std.proofs.lemmas.Bool.Decides.{nat_tests}
use Rattle.std.proofs.lemmas.List.{append-nil}
use Rattle.std.proofs.lemmas.List.Concat.{flat_map-append}
use Rattle.h2_frames.specs.declared.frame.Frame.{Frame}
use Rattle.h2_exchange.specs.declared.limits.CalmCause.TheVariants.{Resets}
use Rattle.h2_exchange.specs.declared.limits.H2Limits.{H2Limits}
use Rattle.h2_exchange.specs.declared.role.Role.{Role}
use Rattle.h2_exchange.specs.declared.role.Role.TheVariants.{Client, Server}
use Rattle.h2_exchange.specs.Blocks.{data_of}
use Rattle.h2_exchange.specs.Content.{Outcome}
use Rattle.h2_exchange.specs.Events.{events_of, all_events, bytes_on}
use Rattle.h2_exchange.specs.Exchange.{Step, Sent, sent, collect}
use Rattle.h2_exchange.specs.Frames.{stream_of, is_data, is_rst_stream}
use Rattle.h2_exchange.specs.Stops.{Stop, Calm, stop_at, stop_of, count_steps, request_bytes, ends_call, cuts_request, has_request}
use Rattle.h2_exchange.specs.Streams.{begins, is_begun, is_live}
use Rattle.h2_exchange.proofs.Staying.{stop_stays}
use Rattle.h2_exchange.proofs.Looking.{collect_push, given_more}
use Rattle.h2_exchange.proofs.Steps.{sent_push, begun_push}
use Rattle.h2_conn.specs.Watching.{Watch, IsWatched, IsAsked, asked_on, stop_by}

abbrev marked : (List Step → Step → Bool) → Step → List Step → List Step
marked test t past = if test past t then t ∷ [] else []

one_or_none : (s : Step) (b : Bool) → length (if b then s ∷ [] else []) ≡ (if b then 1 else 0)
one_or_none s true = refl
one_or_none s false = refl

pub count_push : (test : List Step → Step → Bool) (x : List Step) (s : Step) → count_steps test (x ++ s ∷ []) ≡ count_steps test x + (if test x s then 1 else 0)
count_push test x s =
    ap length (collect_push (λ past t. marked test t past) x s) ∙ length-append (collect (λ past t. marked test t past) [] x) (marked test s x) ∙ ap (λ (n : ℕ). count_steps test x + n) (one_or_none s (test x s))

module _ (role : Role) (limits : H2Limits) (heads : List Outcome) where
  abbrev pub cuts : List Step → ℕ
  cuts x = count_steps (cuts_request role limits heads) x

  abbrev pub ends : List Step → ℕ
  ends x = count_steps (ends_call limits heads role) x

  -- what stops at a sent frame where nothing stopped before
  pub stop_sent : (x : List Step) (f : Frame) → stop_of role limits heads x ≡ None → stop_of role limits heads (x ++ Sent f ∷ []) ≡ (if nat_lt (1000 + ends (x ++ Sent f ∷ [])) (cuts (x ++ Sent f ∷ [])) then Some (Calm Resets) else None)
  stop_sent x f e =
      given_more (stop_at role limits heads) [] x (Sent f ∷ [])
      ∙ ap (λ (o : Option Stop). option_or o (option_or (stop_at role limits heads x (Sent f)) None)) e
      ∙ or_none (if nat_lt (1000 + ends (x ++ Sent f ∷ [])) (cuts (x ++ Sent f ∷ [])) then Some (Calm Resets) else None)
    where
      or_none : (o : Option Stop) → option_or o None ≡ o
      or_none None = refl
      or_none (Some stop) = refl

  pub by_counts : (left more : ℕ) (x : List Step) → left + cuts x ≡ 1000 + ends x → (if nat_lt (1000 + ends x) (cuts x) then Some (Calm Resets) else None) ≡ None
  by_counts left more x e = ap (λ (b : Bool). if b then Some (Calm Resets) else None) (within left (cuts x) (1000 + ends x) e)
    where
      within : (a b n : ℕ) → a + b ≡ n → nat_lt n b ≡ false
      within a b n p = grind (arith, nat_tests)

  pub quiet_count : (test : List Step → Step → Bool) (x : List Step) (s : Step) → test x s ≡ false → count_steps test (x ++ s ∷ []) ≡ count_steps test x
  quiet_count test x s e = count_push test x s ∙ ap (λ (b : Bool). count_steps test x + (if b then 1 else 0)) e ∙ omega arith

-- ---- streams that aren't begun

left_false : (a b : Bool) → (a || b) ≡ false → a ≡ false
left_false true b e = absurd cc
left_false false b e = refl

pub unbegun : (role : Role) (x : List Step) (s : Step) (id : ℕ) → is_begun role (x ++ s ∷ []) id ≡ false → is_begun role x id ≡ false
unbegun role x s id none = left_false (is_begun role x id) (begins role id x s) (sym (begun_push role x s id) ∙ none)

or_true : (a b : Bool) → a ≡ true → (a || b) ≡ true
or_true true b e = refl
or_true false b e = absurd cc

pub front_true : (a b : Bool) → (a && b) ≡ true → a ≡ true
front_true true b e = refl
front_true false b e = absurd cc

pub begun_more : (role : Role) (x : List Step) (s : Step) (id : ℕ) → is_begun role x id ≡ true → is_begun role (x ++ s ∷ []) id ≡ true
begun_more role x s id e = begun_push role x s id ∙ or_true (is_begun role x id) (begins role id x s) e

-- ---- the bytes of requests

abbrev data_on : ℕ → Frame → List ℕ
data_on id g = if is_data g && stream_of g == id then data_of g else []

no_data : (id : ℕ) (f : Frame) (b : Bool) → b ≡ false → (if b && stream_of f == id then data_of f else []) ++ [] ≡ []
no_data id f true p = absurd cc
no_data id f false p = refl

pub bytes_sent : (role : Role) (limits : H2Limits) (heads : List Outcome) (x : List Step) (f : Frame) (id : ℕ) → is_data f ≡ false → request_bytes limits heads role (x ++ Sent f ∷ []) id ≡ request_bytes limits heads role x id
bytes_sent Server limits heads x f id e = ap (bytes_on id) (collect_push (events_of Server limits heads) x (Sent f) ∙ append-nil (all_events Server limits heads x))
bytes_sent Client limits heads x f id e =
    ap (flat_map (data_on id)) (sent_push x f) ∙ flat_map-append (data_on id) (sent x) (f ∷ []) ∙ ap (λ (b : List ℕ). flat_map (data_on id) (sent x) ++ b) (no_data id f (is_data f) e) ∙ append-nil (flat_map (data_on id) (sent x))

-- ---- a frame that is no reset, ends no call and brings no bytes of a request

pub server_bytes : (limits : H2Limits) (heads : List Outcome) (x : List Step) (f : Frame) (id : ℕ) → request_bytes limits heads Server (x ++ Sent f ∷ []) id ≡ request_bytes limits heads Server x id
server_bytes limits heads x f id = ap (bytes_on id) (collect_push (events_of Server limits heads) x (Sent f) ∙ append-nil (all_events Server limits heads x))

module _ (role : Role) (limits : H2Limits) (heads : List Outcome) (x : List Step) (f : Frame) (no_reset : is_rst_stream f ≡ false) (no_end : ends_call limits heads role x (Sent f) ≡ false) where
  no_cut : cuts_request role limits heads x (Sent f) ≡ false
  no_cut = ap (λ (b : Bool). b && is_begun role x (stream_of f) && not (has_request role limits heads x (stream_of f))) no_reset

  counts_stay : (left : ℕ) → left + cuts role limits heads x ≡ 1000 + ends role limits heads x → left + cuts role limits heads (x ++ Sent f ∷ []) ≡ 1000 + ends role limits heads (x ++ Sent f ∷ [])
  counts_stay left e =
      omega (arith, e, quiet_count role limits heads (cuts_request role limits heads) x (Sent f) no_cut, quiet_count role limits heads (ends_call limits heads role) x (Sent f) no_end)

  stop_by_passed : (left : ℕ) (passed : Bool) → (passed ≡ false → left + cuts role limits heads x ≡ 1000 + ends role limits heads x) → stop_of role limits heads x ≡ stop_by passed → stop_of role limits heads (x ++ Sent f ∷ []) ≡ stop_by passed
  stop_by_passed left false counts e = stop_sent role limits heads x f e ∙ by_counts role limits heads left 0 (x ++ Sent f ∷ []) (counts_stay left (counts refl))
  stop_by_passed left true counts e = stop_stays role limits heads x (Sent f ∷ []) (Calm Resets) e

  pub quiet_watched : (w : Watch) → ((id : ℕ) → request_bytes limits heads role (x ++ Sent f ∷ []) id ≡ request_bytes limits heads role x id) → ((id : ℕ) → is_live role (x ++ Sent f ∷ []) id ≡ true → is_live role x id ≡ true) →
      stop_of role limits heads x ≡ stop_by w.is_passed → IsWatched role limits heads x w →
      IsWatched role limits heads (x ++ Sent f ∷ []) w × (stop_of role limits heads (x ++ Sent f ∷ []) ≡ stop_by w.is_passed)
  quiet_watched w same back stop h = (
    record {
      counts = λ p. counts_stay w.left (h.counts p);
      requests = λ id live. subst (λ (b : List ℕ). IsAsked b (asked_on id w)) (sym (same id)) (h.requests id (back id live));
      idle = λ id none. let i = h.idle id (unbegun role x (Sent f) id none) in (same id ∙ i.0, i.1);
    },
    stop_by_passed w.left w.is_passed h.counts stop,
  )
