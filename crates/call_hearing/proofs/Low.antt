-- Header blocks stand on streams up to the greatest that was begun.
use Rattle.std.proofs.Common.{◌≡◌, inl, inr, ℕ, ◌≤◌, max, Bool, ◌&&◌, ◌||◌, false, true, List, [], ◌∷◌, refl, sym, ap, ◌∙◌, arith, Option, Some, None}
use Rattle.std.specs.Prelude.{if◌then◌else◌, ◌==◌, nat_lt, fold, option_to_list}
use Rattle.std.specs.List.{list_any}
use Rattle.std.proofs.lemmas.Bool.{eqb-true}
use Rattle.std.proofs.lemmas.Bool.Decides.{nat_tests}
use Rattle.std.proofs.lemmas.List.Folds.{list_any-append}
use Rattle.h2_frames.specs.declared.frame.Frame.{Frame}
use Rattle.h2_frames.specs.declared.frame.Frame.TheVariants.{Content, Headers, Priority, RstStream, Settings, PushPromise, Ping, GoAway, WindowUpdate, Continuation, Unknown}
use Rattle.h2_exchange.specs.declared.role.Role.TheVariants.{Server}
use Rattle.h2_exchange.specs.Blocks.{Block, block_with, blocks_behind, completed_by, left_open}
use Rattle.h2_exchange.specs.Exchange.{Step, Received, received}
use Rattle.h2_exchange.specs.Frames.{stream_of, is_headers, has_end_headers}
use Rattle.h2_exchange.specs.Streams.{begins, has_head, highest, is_odd}
use Rattle.h2_exchange.proofs.EventOrder.{is_false}
use Rattle.h2_exchange.proofs.Places.{one_of}

abbrev raise : ℕ → Frame → ℕ
raise most f = if is_headers f && is_odd (stream_of f) then max most (stream_of f) else most

abbrev stream_or : Option Block → ℕ
stream_or None = 0
stream_or (Some b) = b.stream

raised_to : (o : Bool) (m s : ℕ) → o ≡ true → s ≤ (if o then max m s else m)
raised_to true m s e = omega arith
raised_to false m s e = absurd cc

raised : (h o : Bool) (m n : ℕ) → m ≤ (if h && o then max m n else m)
raised true true m n = omega arith
raised true false m n = omega arith
raised false o m n = omega arith

at_least : (m : ℕ) (fs : List Frame) → m ≤ fold raise m fs
at_least m [] = omega arith
at_least m (f ∷ fs) = omega (arith, raised (is_headers f) (is_odd (stream_of f)) m (stream_of f), at_least (raise m f) fs)

abbrev IsLow : Option Block → ℕ → Type 0
IsLow opened m = (d : Block) → opened ≡ Some d → is_odd d.stream ≡ true → d.stream ≤ m

low_block : (opened : Option Block) (m : ℕ) (f : Frame) (b : Block) → IsLow opened m → block_with opened f ≡ Some b → is_odd b.stream ≡ true → b.stream ≤ raise m f
low_block None m (Headers h) b low e odd =
    let same : stream_of (Headers h) ≡ b.stream = ap stream_or e in
    let up : stream_of (Headers h) ≤ raise m (Headers h) = raised_to (is_odd (stream_of (Headers h))) m (stream_of (Headers h)) (ap is_odd same ∙ odd) in
    omega (arith, same, up)
low_block None m (Content h) b low e odd = absurd cc
low_block None m (Priority h) b low e odd = absurd cc
low_block None m (RstStream h) b low e odd = absurd cc
low_block None m (Settings h) b low e odd = absurd cc
low_block None m (PushPromise h) b low e odd = absurd cc
low_block None m (Ping h) b low e odd = absurd cc
low_block None m (GoAway h) b low e odd = absurd cc
low_block None m (WindowUpdate h) b low e odd = absurd cc
low_block None m (Continuation h) b low e odd = absurd cc
low_block None m (Unknown n h) b low e odd = absurd cc
low_block (Some d) m (Continuation h) b low e odd =
    let same : d.stream ≡ b.stream = ap stream_or e in
    let before : d.stream ≤ m = low d refl (ap is_odd same ∙ odd) in
    omega (arith, same, before)
low_block (Some d) m (Headers h) b low e odd = absurd cc
low_block (Some d) m (Content h) b low e odd = absurd cc
low_block (Some d) m (Priority h) b low e odd = absurd cc
low_block (Some d) m (RstStream h) b low e odd = absurd cc
low_block (Some d) m (Settings h) b low e odd = absurd cc
low_block (Some d) m (PushPromise h) b low e odd = absurd cc
low_block (Some d) m (Ping h) b low e odd = absurd cc
low_block (Some d) m (GoAway h) b low e odd = absurd cc
low_block (Some d) m (WindowUpdate h) b low e odd = absurd cc
low_block (Some d) m (Unknown n h) b low e odd = absurd cc

pub record OneBlock (o : Option Block) (k : ℕ) : Type 0 where
  pub b : Block
  pub is : o ≡ Some b
  pub on : (b.stream == k) ≡ true

one_block : (o : Option Block) (k : ℕ) → list_any (λ b. b.stream == k) (option_to_list o) ≡ true → OneBlock o k
one_block None k e = absurd cc
one_block (Some b) k e = record { b = b; is = refl; on = by (b.stream == k) e }
  where
    by : (t : Bool) → (t || false) ≡ true → t ≡ true
    by true h = refl
    by false h = absurd cc

if_some : (t : Bool) (o : Option Block) (b : Block) → (if t then o else None) ≡ Some b → o ≡ Some b
if_some true o b e = e
if_some false o b e = absurd cc

unless_some : (t : Bool) (o : Option Block) (b : Block) → (if t then None else o) ≡ Some b → o ≡ Some b
unless_some true o b e = absurd cc
unless_some false o b e = e

low_behind : (opened : Option Block) (m : ℕ) (fs : List Frame) (k : ℕ) → IsLow opened m → is_odd k ≡ true → list_any (λ b. b.stream == k) (blocks_behind opened fs) ≡ true → k ≤ fold raise m fs
low_behind opened m [] k low odd e = absurd cc
low_behind opened m (f ∷ fs) k low odd e =
    elim (one_of (list_any (λ b. b.stream == k) (option_to_list (completed_by opened f))) (list_any (λ b. b.stream == k) (blocks_behind (left_open opened f) fs))
    (sym (list_any-append (λ b. b.stream == k) (option_to_list (completed_by opened f)) (blocks_behind (left_open opened f) fs)) ∙ e)) [
      | inl now ↦ here (one_block (completed_by opened f) k now)
      | inr later ↦ low_behind (left_open opened f) (raise m f) fs k (λ d is. low_block opened m f d low (unless_some (has_end_headers f) (block_with opened f) d is)) odd later
    ]
  where
    here : OneBlock (completed_by opened f) k → k ≤ fold raise (raise m f) fs
    here one =
        let same : one.b.stream ≡ k = eqb-true one.b.stream k one.on in
        let low_one : one.b.stream ≤ raise m f = low_block opened m f one.b low (if_some (has_end_headers f) (block_with opened f) one.b one.is) (ap is_odd same ∙ odd) in
        omega (arith, same, low_one, at_least (raise m f) fs)

pub record New (h o l s : Bool) : Type 0 where
  pub headers : h ≡ true
  pub odd : o ≡ true
  pub above : l ≡ true
  pub here : s ≡ true

new_is : (h o l s : Bool) → ((h && o && l && s) || false) ≡ true → New h o l s
new_is true true true true e = record { headers = refl; odd = refl; above = refl; here = refl }
new_is true true true false e = absurd cc
new_is true true false s e = absurd cc
new_is true false l s e = absurd cc
new_is false o l s e = absurd cc

pub new_of : (past : List Step) (f : Frame) (k : ℕ) → begins Server k past (Received f) ≡ true → New (is_headers f) (is_odd (stream_of f)) (nat_lt (highest (received past)) (stream_of f)) (stream_of f == k)
new_of past f k e = new_is (is_headers f) (is_odd (stream_of f)) (nat_lt (highest (received past)) (stream_of f)) (stream_of f == k) e

above_it : (m n k : ℕ) → nat_lt m n ≡ true → n ≡ k → k ≤ m → ⊥
above_it m n k e f g = grind (arith, nat_tests)

-- a stream that a frame begins had no head
pub fresh_head : (past : List Step) (f : Frame) (k : ℕ) → begins Server k past (Received f) ≡ true → has_head (received past) k ≡ false
fresh_head past f k e =
    let new = new_of past f k e in
    let same : stream_of f ≡ k = eqb-true (stream_of f) k new.here in
    is_false (has_head (received past) k) (λ h.
    above_it (highest (received past)) (stream_of f) k new.above same
    (low_behind None 0 (received past) k (λ d is. absurd cc) (ap is_odd (sym same) ∙ new.odd) h))
