-- How a reader goes on standing for what it was fed and what it gave.
use Rattle.std.proofs.Common.{◌≡◌, ℕ, ◌+◌, ◌<◌, ◌≤◌, List, [], ◌∷◌, ◌++◌, length, drop, Option, Some, None, refl, sym, ap, subst, inl, inr, ◌∙◌, arith}
use Rattle.std.specs.Prelude.{Bool, IsTrue, ◌↔◌, MatchOption, sum_by}
use Rattle.std.proofs.lemmas.List.{take-append-le, drop-append-le, length-append, length-drop, drop_all, nil_from_length}
use Rattle.std.proofs.lemmas.List.Sums.{sum_by_push, sum_by-cons}
use Rattle.std.specs.Int.{w32, from_be_bytes}
use Rattle.h2_frames.specs.declared.code.ErrorCode.{ErrorCode}
use Rattle.h2_frames.specs.declared.frame.Frame.{Frame}
use Rattle.h2_frames.specs.declared.reader.FrameNext.{FrameNext}
use Rattle.h2_frames.specs.declared.reader.FrameNext.TheVariants as NextFrame
use Rattle.h2_frames.specs.declared.reader.Refusal.{Refusal}
use Rattle.h2_frames.specs.declared.reader.Refusal.TheVariants as Was
use Rattle.h2_frames.specs.Layout.{size_of, IsFrame, IsPartial, IsTooLong, BeginsWithFrame, said_length}
use Rattle.h2_frames.specs.Reader.{Reader}
use Rattle.h2_frames.proofs.Prefixes.{take_nothing, MatchesPreface-cut, MatchesPreface-append, MatchesPreface-all, MatchesPreface-self}
use Rattle.h2_frames.specs.Stream.{MatchesPreface, Reads, Frames, TakesFrame, GivesFrame, Breaks, IsBroken, HasAnother, Stands, StandsAlive, StandsDead, Answers, AreWhole, CarriesNext, CarriesPiece, EndsBetween, StaysRefused, refusal_answer, fed, place_at, place_after}

-- ---- frames and more bytes

pub Reads-append : (bytes : List ℕ) (fs : List Frame) (rest more : List ℕ) → Reads bytes fs rest → Reads (bytes ++ more) fs (rest ++ more)
Reads-append bytes [] rest more h = ap (λ (x : List ℕ). x ++ more) h
Reads-append bytes (f ∷ fs) rest more h = (
  omega (arith, length-append bytes more),
  subst (λ (x : List ℕ). IsFrame x f) (sym (take-append-le (size_of f) bytes more h.0)) h.1,
  subst (λ (x : List ℕ). Reads x fs (rest ++ more)) (sym (drop-append-le (size_of f) bytes more h.0)) (Reads-append (drop (size_of f) bytes) fs rest more h.2),
)

pub Reads-push : (bytes : List ℕ) (fs : List Frame) (rest : List ℕ) (f : Frame) (left : List ℕ) → Reads bytes fs rest → TakesFrame rest f left → Reads bytes (fs ++ f ∷ []) left
Reads-push bytes [] rest f left h t =
    subst (λ (x : List ℕ). Reads x (f ∷ []) left) h (t.whole, t.frame, t.rest_is)
Reads-push bytes (g ∷ fs) rest f left h t = (h.0, h.1, Reads-push (drop (size_of g) bytes) fs rest f left h.2 t)

-- ---- what is due

-- behind less than what is due nothing is read
due_first : (due bytes : List ℕ) (f : Frame) (fs : List Frame) (rest : List ℕ) → Reads (drop (length due) bytes) (f ∷ fs) rest → length due ≤ length bytes
due_first due bytes f fs rest h = omega (arith, h.0, length-drop (length due) bytes)

-- ---- a piece

too_long : (rest more : List ℕ) → IsTooLong rest → IsTooLong (rest ++ more)
too_long rest more h =
    (omega (arith, h.0, length-append rest more), subst (λ (x : List ℕ). 16384 < from_be_bytes w32 (0 ∷ x)) (sym (take-append-le 3 rest more (omega (arith, h.0)))) h.1)

long_due : (due bytes : List ℕ) (frames : List Frame) (rest : List ℕ) → Reads (drop (length due) bytes) frames rest → 0 < length rest → length due ≤ length bytes
long_due due bytes [] rest h some = omega (arith, length-drop (length due) bytes, ap length h)
long_due due bytes (f ∷ fs) rest h some = due_first due bytes f fs rest h

IsBroken-append : (due bytes more : List ℕ) (frames : List Frame) (code : ErrorCode) (place : ℕ) → IsBroken due bytes frames code place → IsBroken due (bytes ++ more) frames code place
IsBroken-append due bytes more frames code place (inl h) = inl (λ p. h.0 (MatchesPreface-cut due bytes more p), h.1, h.2, h.3)
IsBroken-append due bytes more frames code place (inr h) =
    let le = long_due due bytes frames h.0 h.2 (omega (arith, h.3.0)) in
    inr (h.0 ++ more, MatchesPreface-append due bytes more le h.1, subst (λ (x : List ℕ). Reads x frames (h.0 ++ more)) (sym (drop-append-le (length due) bytes more le)) (Reads-append (drop (length due) bytes) frames h.0 more h.2), too_long h.0 more h.3, h.4, h.5)

alive_fed : (due : List ℕ) (r : Reader) (bytes piece : List ℕ) (given : List Frame) → StandsAlive due r bytes given
    → StandsAlive due (record { awaited = r.awaited; held = r.held ++ piece; place = r.place; refusal = r.refusal }) (bytes ++ piece) given
alive_fed due r bytes piece [] h = (h.0, ap (λ (x : List ℕ). x ++ piece) h.1, h.2)
alive_fed due r bytes piece (f ∷ fs) h =
    let le = due_first due bytes f fs r.held h.2 in
    (h.0, MatchesPreface-append due bytes piece le h.1, subst (λ (x : List ℕ). Reads x (f ∷ fs) (r.held ++ piece)) (sym (drop-append-le (length due) bytes piece le)) (Reads-append (drop (length due) bytes) (f ∷ fs) r.held piece h.2), h.3)

frame_first : (rest more : List ℕ) → BeginsWithFrame rest → BeginsWithFrame (rest ++ more)
frame_first rest more h =
    let same : said_length (rest ++ more) ≡ said_length rest = ap (λ (x : List ℕ). from_be_bytes w32 (0 ∷ x)) (take-append-le 3 rest more (omega (arith, h.1))) in
    (omega (arith, same, h.0), omega (arith, same, h.1, length-append rest more))

HasAnother-append : (due bytes more : List ℕ) (given : List Frame) → HasAnother due bytes given → HasAnother due (bytes ++ more) given
HasAnother-append due bytes more given h =
    let le = long_due due bytes given h.0 h.2 (omega (arith, h.3.1)) in
    (h.0 ++ more, MatchesPreface-append due bytes more le h.1, subst (λ (x : List ℕ). Reads x given (h.0 ++ more)) (sym (drop-append-le (length due) bytes more le)) (Reads-append (drop (length due) bytes) given h.0 more h.2), frame_first h.0 more h.3)

dead_fed : (why : Refusal) (due bytes piece : List ℕ) (given : List Frame) → StandsDead why due bytes given → StandsDead why due (bytes ++ piece) given
dead_fed (Was.Broken code place) due bytes piece given h = IsBroken-append due bytes piece given code place h
dead_fed Was.NoMemory due bytes piece given h = HasAnother-append due bytes piece given h

carried : (due awaited held piece bytes : List ℕ) (place : ℕ) (refusal : Option Refusal) (given : List Frame) →
    let r : Reader = record { awaited = awaited; held = held; place = place; refusal = refusal } in
    Stands due r bytes given → Stands due (fed r piece) (bytes ++ piece) given
carried due awaited held piece bytes place None given h = alive_fed due (record { awaited = awaited; held = held; place = place; refusal = None }) bytes piece given h
carried due awaited held piece bytes place (Some why) given h = dead_fed why due bytes piece given h

pub carries_piece : (r : Reader) (piece : List ℕ) → CarriesPiece r piece (fed r piece)
carries_piece r piece due bytes given h = carried due r.awaited r.held piece bytes r.place r.refusal given h

-- ---- what `next` answers

when_none : (P : Type 0) (Q : Refusal → Type 0) (o : Option Refusal) → o ≡ None → MatchOption o P Q → P
when_none P Q None e h = h
when_none P Q (Some why) e h = absurd cc

from_none : (P : Type 0) (Q : Refusal → Type 0) (o : Option Refusal) → o ≡ None → P → MatchOption o P Q
from_none P Q None e h = h
from_none P Q (Some why) e h = absurd cc

when_some : (P : Type 0) (Q : Refusal → Type 0) (o : Option Refusal) (why : Refusal) → o ≡ Some why → MatchOption o P Q → Q why
when_some P Q o why e h = rw e at h

from_some : (P : Type 0) (Q : Refusal → Type 0) (o : Option Refusal) (why : Refusal) → o ≡ Some why → Q why → MatchOption o P Q
from_some P Q o why e h = rw e h

not_dead : (o : Option Refusal) (why : Refusal) → o ≡ None → o ≡ Some why → ⊥
not_dead o why n s = absurd cc

same_why : (a b : Refusal) → Some a ≡ Some b → a ≡ b
same_why a b e = cc

-- what an awaited list that is no more leaves
no_wait : (awaited held : List ℕ) → awaited ≡ [] → drop (length awaited) held ≡ held
no_wait awaited held e = ap (λ (x : List ℕ). drop (length x) held) e

place_pushed : (due : List ℕ) (fs : List Frame) (f : Frame) (before now : ℕ) → before ≡ place_after due fs → now ≡ place_at (before + (0 + size_of f)) → now ≡ place_after due (fs ++ f ∷ [])
place_pushed due fs f before now p q = omega (arith, sum_by_push size_of fs f)

alive_gives : (due : List ℕ) (old : Reader) (f : Frame) (new : Reader) (bytes : List ℕ) (given : List Frame) → StandsAlive due old bytes given → GivesFrame old f new → StandsAlive due new bytes (given ++ f ∷ [])
alive_gives due old f new bytes [] h g =
    let due-is = h.0 in
    let bytes-is = h.1 in
    let follows : MatchesPreface due bytes = subst (λ (x : List ℕ). MatchesPreface x bytes) due-is (subst (λ (x : List ℕ). MatchesPreface old.awaited x) bytes-is g.follows) in
    let takes : TakesFrame (drop (length due) bytes) f new.held = subst (λ (x : List ℕ). TakesFrame (drop (length x) bytes) f new.held) due-is (subst (λ (x : List ℕ). TakesFrame (drop (length old.awaited) x) f new.held) bytes-is g.takes) in
    (g.awaited, follows, (takes.whole, takes.frame, takes.rest_is), g.place ∙ first_place due old.awaited f old.place due-is h.2)
  where
    first_place : (due awaited : List ℕ) (f : Frame) (before : ℕ) → awaited ≡ due → before ≡ 0 → place_at (before + (length awaited + size_of f)) ≡ place_after due (f ∷ [])
    first_place due awaited f before e z = omega (arith, ap length e)
alive_gives due old f new bytes (g ∷ gs) h gives =
    let takes : TakesFrame old.held f new.held = subst (λ (x : List ℕ). TakesFrame x f new.held) (no_wait old.awaited old.held h.0) gives.takes in (
      gives.awaited,
      h.1,
      Reads-push (drop (length due) bytes) (g ∷ gs) old.held f new.held h.2 takes,
      place_pushed due (g ∷ gs) f old.place new.place h.3 (gives.place ∙ ap (λ (x : List ℕ). place_at (old.place + (length x + size_of f))) h.0),
    )

alive_waits : (due : List ℕ) (old : Reader) (bytes : List ℕ) (given : List Frame) → StandsAlive due old bytes given → MatchesPreface old.awaited old.held → IsPartial (drop (length old.awaited) old.held) → (rest : List ℕ) × Frames due bytes given rest
alive_waits due old bytes [] h follows partial = (
  drop (length due) bytes,
  record {
    follows = subst (λ (x : List ℕ). MatchesPreface x bytes) h.0 (subst (λ (x : List ℕ). MatchesPreface old.awaited x) h.1 follows);
    reads = refl;
    partial = subst (λ (x : List ℕ). IsPartial (drop (length x) bytes)) h.0 (subst (λ (x : List ℕ). IsPartial (drop (length old.awaited) x)) h.1 partial);
  },
)
alive_waits due old bytes (f ∷ fs) h follows partial =
    (old.held, record { follows = h.1; reads = h.2; partial = subst IsPartial (no_wait old.awaited old.held h.0) partial })

alive_breaks : (due : List ℕ) (old : Reader) (bytes : List ℕ) (given : List Frame) (code : ErrorCode) (place : ℕ) → StandsAlive due old bytes given → Breaks old code place → IsBroken due bytes given code place
alive_breaks due old bytes [] code place h (inl b) =
    inl (subst (λ (x : List ℕ). MatchesPreface x bytes → ⊥) h.0 (subst (λ (x : List ℕ). MatchesPreface old.awaited x → ⊥) h.1 b.0), refl, b.1, b.2)
alive_breaks due old bytes [] code place h (inr b) =
    inr (
      drop (length due) bytes,
      subst (λ (x : List ℕ). MatchesPreface x bytes) h.0 (subst (λ (x : List ℕ). MatchesPreface old.awaited x) h.1 b.0),
      refl,
      subst (λ (x : List ℕ). IsTooLong (drop (length x) bytes)) h.0 (subst (λ (x : List ℕ). IsTooLong (drop (length old.awaited) x)) h.1 b.1),
      b.2,
      b.3 ∙ first due old.awaited old.place h.0 h.2,
    )
  where
    first : (due awaited : List ℕ) (before : ℕ) → awaited ≡ due → before ≡ 0 → place_at (before + length awaited) ≡ place_after due []
    first due awaited before e z = omega (arith, ap length e)
alive_breaks due old bytes (f ∷ fs) code place h (inl b) = absurd (b.0 (subst (λ (x : List ℕ). MatchesPreface x old.held) (sym h.0) (sym (take_nothing (length old.held)))))
alive_breaks due old bytes (f ∷ fs) code place h (inr b) =
    inr (old.held, h.1, h.2, subst IsTooLong (no_wait old.awaited old.held h.0) b.1, b.2, b.3 ∙ later old.awaited old.place h.0 h.3)
  where
    later : (awaited : List ℕ) (before : ℕ) → awaited ≡ [] → before ≡ place_after due (f ∷ fs) → place_at (before + length awaited) ≡ place_after due (f ∷ fs)
    later awaited before e p = omega (arith, ap length e)

alive_another : (due : List ℕ) (r : Reader) (bytes : List ℕ) (given : List Frame) → StandsAlive due r bytes given → MatchesPreface r.awaited r.held → BeginsWithFrame (drop (length r.awaited) r.held) → HasAnother due bytes given
alive_another due r bytes [] h follows more = (
  drop (length due) bytes,
  subst (λ (x : List ℕ). MatchesPreface x bytes) h.0 (subst (λ (x : List ℕ). MatchesPreface r.awaited x) h.1 follows),
  refl,
  subst (λ (x : List ℕ). BeginsWithFrame (drop (length x) bytes)) h.0 (subst (λ (x : List ℕ). BeginsWithFrame (drop (length r.awaited) x)) h.1 more),
)
alive_another due r bytes (f ∷ fs) h follows more = (r.held, h.1, h.2, subst BeginsWithFrame (no_wait r.awaited r.held h.0) more)

-- these frames stand first behind what is due
abbrev pub IsPrefix : List ℕ → List ℕ → List Frame → Type 0
IsPrefix due bytes [] = Unit {0}
IsPrefix due bytes (f ∷ fs) = (rest : List ℕ) × MatchesPreface due bytes × Reads (drop (length due) bytes) (f ∷ fs) rest

front_alive : (due : List ℕ) (r : Reader) (bytes : List ℕ) (given : List Frame) → StandsAlive due r bytes given → IsPrefix due bytes given
front_alive due r bytes [] h = tt
front_alive due r bytes (f ∷ fs) h = (r.held, h.1, h.2)

front_broken : (due bytes : List ℕ) (given : List Frame) (code : ErrorCode) (place : ℕ) → IsBroken due bytes given code place → IsPrefix due bytes given
front_broken due bytes [] code place b = tt
front_broken due bytes (f ∷ fs) code place (inl b) = absurd cc
front_broken due bytes (f ∷ fs) code place (inr b) = (b.0, b.1, b.2)

front_another : (due bytes : List ℕ) (given : List Frame) → HasAnother due bytes given → IsPrefix due bytes given
front_another due bytes [] h = tt
front_another due bytes (f ∷ fs) h = (h.0, h.1, h.2)

front_by : (due : List ℕ) (r : Reader) (bytes : List ℕ) (given : List Frame) (refusal : Option Refusal) → MatchOption refusal (StandsAlive due r bytes given) (λ why. StandsDead why due bytes given) → IsPrefix due bytes given
front_by due r bytes given None h = front_alive due r bytes given h
front_by due r bytes given (Some (Was.Broken code place)) h = front_broken due bytes given code place h
front_by due r bytes given (Some Was.NoMemory) h = front_another due bytes given h

-- the frames that a reader gave stand first in what it was fed
pub front_of : (due : List ℕ) (r : Reader) (bytes : List ℕ) (given : List Frame) → Stands due r bytes given → IsPrefix due bytes given
front_of due r bytes given h = front_by due r bytes given r.refusal h

reads_length : (bytes : List ℕ) (fs : List Frame) (rest : List ℕ) → Reads bytes fs rest → sum_by size_of fs + length rest ≡ length bytes
reads_length bytes [] rest h = omega (arith, ap length h)
reads_length bytes (f ∷ fs) rest h = omega (arith, h.0, reads_length (drop (size_of f) bytes) fs rest h.2, length-drop (size_of f) bytes, sum_by-cons size_of f fs)

-- and end within it
pub front_within : (due bytes : List ℕ) (given : List Frame) → IsPrefix due bytes given → 0 < length given → length due + sum_by size_of given ≤ length bytes
front_within due bytes [] h some = absurd (omega arith)
front_within due bytes (f ∷ fs) h some = omega (arith, due_first due bytes f fs h.0 h.2, reads_length (drop (length due) bytes) (f ∷ fs) h.0 h.2, length-drop (length due) bytes)

pub carries_next : (old : Reader) (next : FrameNext) (new : Reader) → Answers old next new → CarriesNext old next new
carries_next old (NextFrame.Frame f) new a due bytes given h =
    from_none (StandsAlive due new bytes (given ++ f ∷ [])) (λ why. StandsDead why due bytes (given ++ f ∷ [])) new.refusal a.goes_on (alive_gives due old f new bytes given (when_none (StandsAlive due old bytes given) (λ why. StandsDead why due bytes given) old.refusal a.alive h) a)
carries_next old NextFrame.NeedMore new a due bytes given h =
    (subst (λ (r : Reader). Stands due r bytes given) (sym a.same) h, alive_waits due old bytes given (when_none (StandsAlive due old bytes given) (λ why. StandsDead why due bytes given) old.refusal a.alive h) a.follows a.partial)
carries_next old (NextFrame.Refused code place) new a due bytes given h =
    let broken : IsBroken due bytes given code place = elim a.cause [
      | inl same ↦ when_some (StandsAlive due old bytes given) (λ why. StandsDead why due bytes given) old.refusal (Was.Broken code place) (ap (λ (r : Reader). r.refusal) (sym same) ∙ a.dead) h
      | inr b ↦ alive_breaks due old bytes given code place (when_none (StandsAlive due old bytes given) (λ why. StandsDead why due bytes given) old.refusal b.0 h) b.1
    ] in
    (from_some (StandsAlive due new bytes given) (λ why. StandsDead why due bytes given) new.refusal (Was.Broken code place) a.dead broken, broken)
carries_next old NextFrame.NoMemory new a due bytes given h =
    let another : HasAnother due bytes given = elim a.cause [
      | inl same ↦ when_some (StandsAlive due old bytes given) (λ why. StandsDead why due bytes given) old.refusal Was.NoMemory (ap (λ (r : Reader). r.refusal) (sym same) ∙ a.dead) h
      | inr b ↦ alive_another due old bytes given (when_none (StandsAlive due old bytes given) (λ why. StandsDead why due bytes given) old.refusal b.0 h) b.1 b.2
    ] in
    (from_some (StandsAlive due new bytes given) (λ why. StandsDead why due bytes given) new.refusal Was.NoMemory a.dead another, another)

-- ---- whether the bytes end behind a whole item

whole_alive : (due : List ℕ) (r : Reader) (bytes : List ℕ) (given : List Frame) → StandsAlive due r bytes given → r.held ≡ r.awaited → AreWhole due bytes given
whole_alive due r bytes [] h e =
    let same : bytes ≡ due = sym h.1 ∙ e ∙ h.0 in
    record { follows = subst (MatchesPreface due) (sym same) (MatchesPreface-self due); long = omega (arith, ap length same); reads = sym (drop_all (length due) bytes (omega (arith, ap length same))) }
whole_alive due r bytes (f ∷ fs) h e = record {
  follows = h.1;
  long = due_first due bytes f fs r.held h.2;
  reads = subst (λ (x : List ℕ). Reads (drop (length due) bytes) (f ∷ fs) x) (e ∙ h.0) h.2;
}

alive_whole : (due : List ℕ) (r : Reader) (bytes : List ℕ) (given : List Frame) → StandsAlive due r bytes given → AreWhole due bytes given → r.held ≡ r.awaited
alive_whole due r bytes [] h w =
    let short : length bytes ≡ length due = omega (arith, w.long, ap length w.reads, length-drop (length due) bytes) in
    h.1 ∙ MatchesPreface-all due bytes short w.follows ∙ sym h.0
alive_whole due r bytes (f ∷ fs) h w =
    let a = reads_length (drop (length due) bytes) (f ∷ fs) r.held h.2 in
    let b = reads_length (drop (length due) bytes) (f ∷ fs) [] w.reads in
    nil_from_length r.held (omega (arith, a, b)) ∙ sym h.0

pub ends_between : (r : Reader) (answer : Bool) → IsTrue answer ↔ (r.held ≡ r.awaited) → EndsBetween r answer
ends_between r answer says due bytes given h alive =
    let a : StandsAlive due r bytes given = when_none (StandsAlive due r bytes given) (λ why. StandsDead why due bytes given) r.refusal alive h in
    (λ t. whole_alive due r bytes given a (says.0 t), λ w. says.1 (alive_whole due r bytes given a w))

-- ---- a reader that has refused

pub stays_dead : (old : Reader) (next : FrameNext) (new : Reader) → Answers old next new → StaysRefused old next new
stays_dead old (NextFrame.Frame f) new a why e = absurd (not_dead old.refusal why a.alive e)
stays_dead old NextFrame.NeedMore new a why e = absurd (not_dead old.refusal why a.alive e)
stays_dead old (NextFrame.Refused code place) new a why e =
    elim a.cause [
      | inl same ↦ (ap refusal_answer (same_why (Was.Broken code place) why (sym a.dead ∙ ap (λ (r : Reader). r.refusal) same ∙ e)), same)
      | inr b ↦ absurd (not_dead old.refusal why b.0 e)
    ]
stays_dead old NextFrame.NoMemory new a why e =
    elim a.cause [
      | inl same ↦ (ap refusal_answer (same_why Was.NoMemory why (sym a.dead ∙ ap (λ (r : Reader). r.refusal) same ∙ e)), same)
      | inr b ↦ absurd (not_dead old.refusal why b.0 e)
    ]
