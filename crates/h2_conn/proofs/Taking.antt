-- What a frame that was taken leads to.
use Rattle.std.proofs.Common.{◌≡◌, ℕ, Bool, true, false, ◌&&◌, List, [], ◌∷◌, ◌++◌, length, ◌<◌, Option, Some, None, Ok, Err, refl, sym, ap, subst, ◌∙◌}
use Rattle.std.specs.Prelude.{not, is_some, option_to_list, if◌then◌else◌}
use Rattle.std.proofs.lemmas.List.{append-nil}
use Rattle.h2_frames.specs.declared.code.ErrorCode.{ErrorCode}
use Rattle.h2_frames.specs.declared.frame.Frame.{Frame}
use Rattle.h2_frames.specs.declared.frame.Frame.TheVariants as kind
use Rattle.hpack_tables.specs.declared.field.Field.{Field}
use Rattle.h2_exchange.specs.declared.limits.H2Limits.{H2Limits}
use Rattle.h2_exchange.specs.declared.role.Role.{Role}
use Rattle.h2_exchange.specs.Blocks.{Block, blocks, block_with, open_block, completed}
use Rattle.h2_exchange.specs.Content.{Outcome}
use Rattle.h2_exchange.specs.Exchange.{Step, Received, received}
use Rattle.h2_exchange.specs.Events.{GoneAway}
use Rattle.h2_exchange.specs.Frames.{is_goaway, last_stream_of, goaway_code_of}
use Rattle.h2_exchange.specs.Outcomes.{AreEnough, AreKnown, ReadFirst, is_looked_at}
use Rattle.h2_exchange.specs.Rules.{frame_error}
use Rattle.h2_exchange.specs.Sending.{last_begun}
use Rattle.h2_exchange.specs.Stops.{Stop, Error, stop_at, stop_of, block_stop, place_behind}
use Rattle.h2_exchange.proofs.Steps.{received_push, header_blocks_grow}
use Rattle.h2_streams.specs.declared.set.receive.SeenStream.{SeenStream}
use Rattle.http_connection.specs.ConnectionTrace.{ConnectionTrace}
use Rattle.h2_conn.specs.declared.heard.End.TheVariants as by
use Rattle.h2_conn.specs.declared.heard.Took.{Took}
use Rattle.h2_conn.specs.declared.heard.Took.TheVariants as take
use Rattle.h2_conn.specs.Hears.{TookSo, Sound, Ending, Taken, SaysSo, is_plain}
use Rattle.h2_conn.specs.State.{State}
use Rattle.h2_conn.specs.Steps.{Waiting, plain_in}
use Rattle.h2_conn.proofs.Controls.{plain_goes}
use Rattle.h2_conn.proofs.Halting.{ending}
use Rattle.h2_conn.proofs.Plain.{IsPlain}
use Rattle.h2_conn.proofs.Splits.{Cut, last, within, cut_push, frame_or}

-- ---- frames of control

plain_is : (f : Frame) → is_plain f ≡ true → IsPlain f
plain_is (kind.Content b) e = absurd cc
plain_is (kind.Headers b) e = absurd cc
plain_is (kind.Priority b) e = record { loose = record { headers = refl; more = refl }; no_data = refl; reset = refl }
plain_is (kind.RstStream b) e = absurd cc
plain_is (kind.Settings b) e = record { loose = record { headers = refl; more = refl }; no_data = refl; reset = refl }
plain_is (kind.PushPromise b) e = record { loose = record { headers = refl; more = refl }; no_data = refl; reset = refl }
plain_is (kind.Ping b) e = record { loose = record { headers = refl; more = refl }; no_data = refl; reset = refl }
plain_is (kind.GoAway b) e = record { loose = record { headers = refl; more = refl }; no_data = refl; reset = refl }
plain_is (kind.WindowUpdate b) e = record { loose = record { headers = refl; more = refl }; no_data = refl; reset = refl }
plain_is (kind.Continuation b) e = absurd cc
plain_is (kind.Unknown other b) e = record { loose = record { headers = refl; more = refl }; no_data = refl; reset = refl }

by_goaway : (t : State) (c : ConnectionTrace) (f : Frame) (took : Took) (b : Bool) (id : ℕ) (why : ErrorCode) → took ≡ (if b then take.GoneAway id why else take.Quiet) → t.ended ≡ None →
    Taken t c (if b then GoneAway id why ∷ [] else []) → TookSo c f took t
by_goaway t c f took true id why e none h = subst (λ (x : Took). TookSo c f x t) (sym e) h
by_goaway t c f took false id why e none h = subst (λ (x : Took). TookSo c f x t) (sym e) (record { taken = h; none_ended = none })

pub controls : (s t : State) (c : ConnectionTrace) (f : Frame) (took : Took) → is_plain f ≡ true → t ≡ plain_in f s → SaysSo f took → (seen : SeenStream) (greatest : ℕ) → Sound s c f seen greatest → TookSo c f took t
controls s t c f took plain same says seen greatest h =
    let old = record s { set = h.before } in
    let taken = plain_goes old c f s.set (plain_is f plain) h.waits h.set_is h.set_role h.set_limits h.sound h.faultless in
    subst (λ (u : State). TookSo c f took u) (sym same) (by_goaway (plain_in f s) c f took (is_goaway f) (last_stream_of f) (goaway_code_of f) says h.waits.none_ended taken)

-- ---- a broken rule of the connection

read_more : (entries : List Field) (max : ℕ) (bs more : List Block) (heads : List Outcome) → ReadFirst entries max bs heads → ReadFirst entries max (bs ++ more) heads
read_more entries max [] more [] h = tt
read_more entries max [] more (outcome ∷ heads) h = absurd h
read_more entries max (b ∷ bs) more [] h = tt
read_more entries max (b ∷ bs) more (Ok fields ∷ heads) h = (h.0, h.1, h.2, read_more h.0.entries h.0.max bs more heads h.3)
read_more entries max (b ∷ bs) more (Err fault ∷ heads) h = h

enough_by : (role : Role) (limits : H2Limits) (heads : List Outcome) (x : List Step) (g : Frame) → AreEnough role limits heads x → is_looked_at role limits heads x g ≡ false → (past behind : List Step) (f : Frame) (b : Block) → Cut x (Received g) past (Received f) behind →
    is_looked_at role limits heads past f ≡ true → completed (received past) f ≡ Some b → length (blocks (received past)) < length heads
enough_by role limits heads x g h none past behind f b (last a e c) p q =
    let same : f ≡ g = ap (frame_or f) e in
    let r : is_looked_at role limits heads past f ≡ false = ap (λ (y : List Step). is_looked_at role limits heads y f) a ∙ ap (λ (k : Frame). is_looked_at role limits heads x k) same ∙ none in
    absurd (let t : true ≡ false = sym p ∙ r in cc)
enough_by role limits heads x g h none past behind f b (within more a e) p q = h past more f b e p q

-- nothing more is asked of header blocks where a frame isn't looked at
pub known_still : (role : Role) (limits : H2Limits) (heads : List Outcome) (x : List Step) (f : Frame) → AreKnown role limits heads x → is_looked_at role limits heads x f ≡ false → AreKnown role limits heads (x ++ Received f ∷ [])
known_still role limits heads x f k none = record {
  read = subst (λ (bs : List Block). ReadFirst [] 4096 bs heads) (sym (ap blocks (received_push x f) ∙ header_blocks_grow.blocks_push (received x) f)) (read_more [] 4096 (blocks (received x)) (option_to_list (completed (received x) f)) heads k.read);
  enough = λ past behind g b e p q. enough_by role limits heads x f k.enough none past behind g b (cut_push x (Received f) past (Received g) behind e) p q;
}

unlooked : (a c : Option Stop) (e : Option ErrorCode) (why : ErrorCode) → e ≡ Some why → (not (is_some a) && not (is_some e) && not (is_some c)) ≡ false
unlooked None c None why e = absurd cc
unlooked None c (Some w) why e = refl
unlooked (Some v) c o why e = refl

pub breaks : (s t : State) (c : ConnectionTrace) (f : Frame) (why : ErrorCode) (n : ℕ) → Waiting s c f → c.role ≡ t.role → c.limits ≡ t.limits → c.is_holding ≡ t.is_holding → t.output ≡ s.output → frame_error c.role c.frames f ≡ Some why → last_begun c.role c.frames ≡ n →
    Ending t c (by.Broken why s.place) n
breaks s t c f why n w role limits holding output broken same =
    let heads = c.heads ++ [] in
    let place : s.place ≡ place_behind c.role c.frames = (w.stands.goes w.alive).place_is in
    let stop : stop_at c.role c.limits heads c.frames (Received f) ≡ Some (Error why s.place) = first c.frames heads ∙ ap (λ (k : ℕ). Some (Error why k)) (sym place) in
    let known : AreKnown c.role c.limits heads c.frames = subst (λ (hs : List Outcome). AreKnown c.role c.limits hs c.frames) (sym (append-nil c.heads)) w.stands.kept.read in
    ending s t c f [] w role limits holding output (by.Broken why s.place) n stop
    (known_still c.role c.limits heads c.frames f known (unlooked (stop_of c.role c.limits heads c.frames) (block_stop (block_with (open_block (received c.frames)) f)) (frame_error c.role c.frames f) why broken)) same
  where
    first : (x : List Step) (heads : List Outcome) → stop_at c.role c.limits heads c.frames (Received f) ≡ Some (Error why (place_behind c.role c.frames))
    first x heads = rw broken refl
