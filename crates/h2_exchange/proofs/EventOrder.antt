-- The events of an exchange come in order.
use Rattle.std.proofs.Common.{◌≡◌, ◌⊎◌, ℕ, ◌^◌, ◌<◌, get_or, take, drop, Bool, ◌&&◌, true, false, List, [], ◌∷◌, ◌++◌, Option, Some, None, refl, sym, ap, subst, ◌∙◌, inl, inr, arith}
use Rattle.std.specs.Prelude.{not, ◌==◌, option_map, option_to_list}
use Rattle.std.specs.Int.{w32, from_be_bytes}
use Rattle.std.specs.List.{list_any}
use Rattle.std.specs.Option.{option_or}
use Rattle.std.proofs.lemmas.Bool.{eqb-true}
use Rattle.std.proofs.lemmas.List.Folds.{list_any-append}
use Rattle.std.proofs.lemmas.Nat.{from_be_bytes-to_be_bytes_4}
use Rattle.h2_frames.specs.declared.code.ErrorCode.{ErrorCode}
use Rattle.h2_frames.specs.declared.frame.Frame.{Frame}
use Rattle.h2_frames.specs.declared.frame.Frame.TheVariants.{Content, Headers, Priority, RstStream, Settings, PushPromise, Ping, GoAway, WindowUpdate, Continuation, Unknown}
use Rattle.h2_frames.specs.Layout.{frame_text, body_of, type_of}
use Rattle.h2_exchange.specs.declared.role.Role.TheVariants.{Server}
use Rattle.h2_exchange.specs.Blocks.{blocks, completed}
use Rattle.h2_exchange.specs.Events.{Event, Head, Data, Ended, Reset, GoneAway}
use Rattle.h2_exchange.specs.Exchange.{Step, Received, Sent, received, first_broken}
use Rattle.h2_exchange.specs.Frames.{stream_of, is_rst_stream}
use Rattle.h2_exchange.specs.Sending.{reset_text}
use Rattle.h2_exchange.specs.Streams.{begins, is_begun, is_live, is_live_at, is_over, is_ended_by, has_head}
use Rattle.h2_exchange.proofs.Places.{MayCome, heads_on, closes_on, brings_on, resets_on, neither, and_parts, clash, one_of, first_true, second_true, not_true, any_push}
use Rattle.h2_exchange.proofs.Steps.{received_push, begun_push, begins_once, over_stays, header_blocks_grow, ended_more}

-- an end of the client's side
abbrev pub sides_on : ℕ → Event → Bool
sides_on k (Head s fields last) = last && s == k
sides_on k (Ended s) = s == k
sides_on k other = false

closes_one : (k : ℕ) (e : Event) → closes_on k e ≡ true → (sides_on k e ≡ true) ⊎ (resets_on k e ≡ true)
closes_one k (Head s fields last) e = inl e
closes_one k (Data s b) e = absurd cc
closes_one k (Ended s) e = inl e
closes_one k (Reset s w) e = inr e
closes_one k (GoneAway s w) e = absurd cc

closes_some : (k : ℕ) (es : List Event) → list_any (closes_on k) es ≡ true → (list_any (sides_on k) es ≡ true) ⊎ (list_any (resets_on k) es ≡ true)
closes_some k [] e = absurd cc
closes_some k (x ∷ es) e = elim (one_of (closes_on k x) (list_any (closes_on k) es) e) [
  | inl now ↦ elim (closes_one k x now) [
    | inl a ↦ inl (first_true (sides_on k x) (list_any (sides_on k) es) a)
    | inr b ↦ inr (first_true (resets_on k x) (list_any (resets_on k) es) b)
  ]
  | inr later ↦ elim (closes_some k es later) [
    | inl a ↦ inl (second_true (sides_on k x) (list_any (sides_on k) es) a)
    | inr b ↦ inr (second_true (resets_on k x) (list_any (resets_on k) es) b)
  ]
]

pub is_false : (b : Bool) → (b ≡ true → ⊥) → b ≡ false
is_false true k = absurd (k refl)
is_false false k = refl

-- the next step is the reset of the stream
abbrev pub ResetNext : ℕ → List Step → Type 0
ResetNext k behind = (g : Frame) × (more : List Step) × (behind ≡ Sent g ∷ more) × (is_rst_stream g ≡ true) × (stream_of g ≡ k)

abbrev pub IsReset : List Step → List Step → ℕ → Type 0
IsReset past behind k = (is_begun Server past k ≡ true) × ((is_over past k ≡ true) ⊎ ResetNext k behind)

-- what the events so far say of the steps so far
pub record Stands (past behind : List Step) (es : List Event) : Type 0 where
  pub heads : (k : ℕ) → list_any (heads_on k) es ≡ true → has_head (received past) k ≡ true
  pub sides : (k : ℕ) → list_any (sides_on k) es ≡ true → is_ended_by (received past) k ≡ true
  pub resets : (k : ℕ) → list_any (resets_on k) es ≡ true → IsReset past behind k

abbrev pub Alive : List Step → ℕ → Type 0
Alive past k = is_begun Server past k ≡ true → is_over past k ≡ true → ⊥

-- an event that this frame may give
pub record Admits (past : List Step) (f : Frame) (behind : List Step) (e : Event) : Type 0 where
  pub once : (k : ℕ) → heads_on k e ≡ true → has_head (received past) k ≡ false
  pub goes : (k : ℕ) → brings_on k e ≡ true → (is_ended_by (received past) k ≡ false) × Alive past k
  pub lives : (k : ℕ) → resets_on k e ≡ true → Alive past k
  pub head : (k : ℕ) → heads_on k e ≡ true → has_head (received past ++ f ∷ []) k ≡ true
  pub side : (k : ℕ) → sides_on k e ≡ true → is_ended_by (received past ++ f ∷ []) k ≡ true
  pub reset : (k : ℕ) → resets_on k e ≡ true → IsReset (past ++ Received f ∷ []) behind k

not_sent : (f g : Frame) (x more : List Step) → Received f ∷ x ≡ Sent g ∷ more → ⊥
not_sent f g x more e = cc

module _ (past : List Step) (f : Frame) (x : List Step) where
  is_dead : (es : List Event) → Stands past (Received f ∷ x) es → (k : ℕ) → list_any (resets_on k) es ≡ true → Alive past k → ⊥
  is_dead es old k e alive =
      let r = old.resets k e in
      elim r.1 [
        | inl over ↦ alive r.0 over
        | inr next ↦ not_sent f next.0 x next.1 next.2
      ]

  pub may_of : (es : List Event) (e : Event) → Stands past (Received f ∷ x) es → Admits past f x e → MayCome es e
  may_of es e old new = record {
    once = λ k h. is_false (list_any (heads_on k) es) (λ t. clash (has_head (received past) k) (old.heads k t) (new.once k h));
    goes = λ k b. is_false (list_any (closes_on k) es) (λ t. open_still k (new.goes k b) (closes_some k es t));
    lives = λ k r. is_false (list_any (resets_on k) es) (λ t. is_dead es old k t (new.lives k r));
  }
    where
      open_still : (k : ℕ) → (is_ended_by (received past) k ≡ false) × Alive past k → (list_any (sides_on k) es ≡ true) ⊎ (list_any (resets_on k) es ≡ true) → ⊥
      open_still k h (inl s) = clash (is_ended_by (received past) k) (old.sides k s) h.0
      open_still k h (inr r) = is_dead es old k r h.1

  pub after_data : (es : List Event) (s : ℕ) (bytes : List ℕ) (e : Event) → MayCome es e → MayCome (es ++ Data s bytes ∷ []) e
  after_data es s bytes e may = record {
    once = λ k h. any_push (heads_on k) es (Data s bytes) ∙ neither (list_any (heads_on k) es) false (may.once k h) refl;
    goes = λ k h. any_push (closes_on k) es (Data s bytes) ∙ neither (list_any (closes_on k) es) false (may.goes k h) refl;
    lives = λ k h. any_push (resets_on k) es (Data s bytes) ∙ neither (list_any (resets_on k) es) false (may.lives k h) refl;
  }

  abbrev pub AllAdmitted : List Event → Type 0
  AllAdmitted [] = Unit {0}
  AllAdmitted (e ∷ es) = Admits past f x e × AllAdmitted es

  each : (p : Event → Bool) (P : Type 0) → ((e : Event) → Admits past f x e → p e ≡ true → P) → (es : List Event) → AllAdmitted es → list_any p es ≡ true → P
  each p P k [] h e = absurd cc
  each p P k (y ∷ es) h e = elim (one_of (p y) (list_any p es) e) [
    | inl now ↦ k y h.0 now
    | inr later ↦ each p P k es h.1 later
  ]

  all_of : (more : List Event) (p : Event → Bool) (P : Type 0) (es : List Event) → ((e : Event) → Admits past f x e → p e ≡ true → P) → (list_any p es ≡ true → P) → AllAdmitted more → list_any p (es ++ more) ≡ true → P
  all_of more p P es new old h e = elim (one_of (list_any p es) (list_any p more) (sym (list_any-append p es more) ∙ e)) [
    | inl before ↦ old before
    | inr now ↦ each p P new more h now
  ]

  has_more : (k : ℕ) → has_head (received past) k ≡ true → has_head (received past ++ f ∷ []) k ≡ true
  has_more k e =
      ap (list_any (λ b. b.stream == k)) (header_blocks_grow.blocks_push (received past) f)
      ∙ list_any-append (λ b. b.stream == k) (blocks (received past)) (option_to_list (completed (received past) f))
      ∙ first_true (has_head (received past) k) (list_any (λ b. b.stream == k) (option_to_list (completed (received past) f))) e

  pub stands_received : (es more : List Event) → Stands past (Received f ∷ x) es → AllAdmitted more → Stands (past ++ Received f ∷ []) x (es ++ more)
  stands_received es more old new = record {
    heads = λ k t. ap (λ (l : List Frame). has_head l k) (received_push past f)
        ∙ all_of more (heads_on k) (has_head (received past ++ f ∷ []) k ≡ true) es (λ e a h. a.head k h) (λ b. has_more k (old.heads k b)) new t;
    sides = λ k t. ap (λ (l : List Frame). is_ended_by l k) (received_push past f)
        ∙ all_of more (sides_on k) (is_ended_by (received past ++ f ∷ []) k ≡ true) es (λ e a h. a.side k h) (λ b. ended_more (received past) (f ∷ []) k (old.sides k b)) new t;
    resets = λ k t. all_of more (resets_on k) (IsReset (past ++ Received f ∷ []) x k) es (λ e a h. a.reset k h) (λ b. kept k (old.resets k b)) new t;
  }
    where
      kept : (k : ℕ) → IsReset past (Received f ∷ x) k → IsReset (past ++ Received f ∷ []) x k
      kept k r = (
        begun_push Server past (Received f) k ∙ first_true (is_begun Server past k) (begins Server k past (Received f)) r.0,
        elim r.1 [
          | inl over ↦ inl (over_stays past (Received f ∷ []) k over)
          | inr next ↦ absurd (not_sent f next.0 x next.1 next.2)
        ],
      )

-- ---- streams at a frame

pub live_alive : (past : List Step) (s : ℕ) → is_live Server past s ≡ true → Alive past s
live_alive past s e b over = let r = and_parts (is_begun Server past s) (not (is_over past s)) e in clash (is_over past s) over (not_true (is_over past s) r.1)

pub at_alive : (past : List Step) (f : Frame) (s : ℕ) → is_live_at Server past f s ≡ true → Alive past s
at_alive past f s e = elim (one_of (is_live Server past s) (begins Server s past (Received f)) e) [
  | inl live ↦ live_alive past s live
  | inr new ↦ (λ b over. clash (is_begun Server past s) b (begins_once Server past (Received f) s new))
]

pub at_begun : (past : List Step) (f : Frame) (s : ℕ) → is_live_at Server past f s ≡ true → is_begun Server (past ++ Received f ∷ []) s ≡ true
at_begun past f s e =
    begun_push Server past (Received f) s
    ∙ (elim (one_of (is_live Server past s) (begins Server s past (Received f)) e) [
      | inl live ↦ first_true (is_begun Server past s) (begins Server s past (Received f)) ((and_parts (is_begun Server past s) (not (is_over past s)) live).0)
      | inr new ↦ second_true (is_begun Server past s) (begins Server s past (Received f)) new
    ])

pub move : (P : ℕ → Type 0) (s k : ℕ) → (s == k) ≡ true → P s → P k
move P s k e p = subst P (eqb-true s k e) p

-- ---- rules that nothing breaks

pub unbroken : {A : Type 0} (a : Bool) (why : A) (rules : List (Bool × A)) → first_broken ((a, why) ∷ rules) ≡ None → (a ≡ false) × (first_broken rules ≡ None)
unbroken true why rules e = absurd cc
unbroken false why rules e = (refl, e)

pub none_of : {A : Type 0} (a b : Option A) → option_or a b ≡ None → (a ≡ None) × (b ≡ None)
none_of None b e = (refl, e)
none_of (Some v) b e = absurd cc

pub map_none : {A B : Type 0} (g : A → B) (o : Option A) → option_map g o ≡ None → o ≡ None
map_none g None e = refl
map_none g (Some v) e = absurd cc

-- ---- a reset as it is written

module _ (id : ℕ) (why : ErrorCode) where
  pub type_is : (g : Frame) → frame_text g ≡ reset_text id why → type_of g ≡ 3
  type_is g e = ap (λ (l : List ℕ). get_or l 3 0) e

  pub rst_is : (g : Frame) → type_of g ≡ 3 → is_rst_stream g ≡ true
  rst_is (Content b) e = absurd cc
  rst_is (Headers b) e = absurd cc
  rst_is (Priority b) e = absurd cc
  rst_is (RstStream b) e = refl
  rst_is (Settings b) e = absurd cc
  rst_is (PushPromise b) e = absurd cc
  rst_is (Ping b) e = absurd cc
  rst_is (GoAway b) e = absurd cc
  rst_is (WindowUpdate b) e = absurd cc
  rst_is (Continuation b) e = absurd cc
  rst_is (Unknown other b) e = let above : 9 < other.number = other.is_other in absurd (omega (arith, e, above))

  pub stream_is : (g : Frame) → id < 2 ^ 31 → frame_text g ≡ reset_text id why → stream_of g ≡ id
  stream_is g small e =
      let low : stream_of g < 2 ^ 31 = (body_of g).stream_in_range in
      sym (from_be_bytes-to_be_bytes_4 (stream_of g) (omega (arith, low)))
      ∙ ap (λ (l : List ℕ). from_be_bytes w32 (take 4 (drop 5 l))) e
      ∙ from_be_bytes-to_be_bytes_4 id (omega (arith, small))
