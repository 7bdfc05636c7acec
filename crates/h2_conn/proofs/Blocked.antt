-- Header blocks and stream errors, in the words of the calls.
use Rattle.std.proofs.Common.{◌≡◌, ℕ, Bool, true, false, ◌||◌, List, Option, Some, None, Ok, Err, refl, sym, ap, subst, ◌∙◌}
use Rattle.std.specs.Prelude.{if◌then◌else◌}
use Rattle.std.specs.Option.{option_or}
use Rattle.h2_frames.specs.declared.code.ErrorCode.{ErrorCode}
use Rattle.h2_frames.specs.declared.frame.Frame.{Frame}
use Rattle.h2_frames.specs.declared.frame.Frame.TheVariants as kind
use Rattle.hpack_tables.specs.Decoder.{Decoder}
use Rattle.hpack_tables.specs.declared.fault.HpackFault.{HpackFault}
use Rattle.hpack_tables.specs.declared.field.Field.{Field}
use Rattle.h2_exchange.specs.declared.limits.CalmCause.{CalmCause}
use Rattle.h2_exchange.specs.declared.limits.H2Limits.{H2Limits}
use Rattle.h2_exchange.specs.declared.role.Role.{Role}
use Rattle.h2_exchange.specs.Blocks.{Block, block_with, open_block}
use Rattle.h2_exchange.specs.Exchange.{Step, received}
use Rattle.h2_exchange.specs.Frames.{stream_of, has_end_headers, is_continuation, is_headers}
use Rattle.h2_exchange.specs.StreamErrors.{completed_error, live_error}
use Rattle.h2_exchange.specs.Streams.{is_live}
use Rattle.h2_streams.specs.declared.set.receive.SeenStream.{SeenStream}
use Rattle.http_connection.specs.ConnectionTrace.{ConnectionTrace}
use Rattle.h2_conn.specs.declared.heard.End.TheVariants as by
use Rattle.h2_conn.specs.BlocksRead.{ReadFaulty, ReadSo}
use Rattle.h2_conn.specs.HeaderParts.{BlockIsRead, block_in, limit_of, took_fault, with_part_of}
use Rattle.h2_conn.specs.Hears.{Ending, Faulty, Quiet, Sound, Starved, TookSo}
use Rattle.h2_conn.specs.State.{State}
use Rattle.h2_conn.proofs.BlockRead.{fault_took, place_is, reads}
use Rattle.h2_conn.proofs.Halting.{starves}
use Rattle.h2_conn.proofs.PartHeard.{limit_ends, part_quiet}

-- ---- no stream error by itself

module _ (s : State) (c : ConnectionTrace) (f : Frame) (seen : SeenStream) (greatest : ℕ) (h : Sound s c f seen greatest) (part : (is_headers f || is_continuation f) ≡ true) where
  pub block_limited : (cause : CalmCause) → limit_of (block_in s.block f) ≡ Some cause → Ending s c (by.Calm cause) greatest
  block_limited cause e = limit_ends s c f h.before h.waits part h.sound cause greatest e h.seen_so.last_is

  pub block_starves : (t : State) → t ≡ s → Starved t c
  block_starves t e = subst (λ (q : State). Starved q c) (sym e) (starves (record s { set = h.before }) s c f h.waits h.waits.stands.role_is h.waits.stands.limits_are h.waits.stands.holding_is refl)

  module _ (few : None ≡ limit_of (block_in s.block f)) where
    pub block_part : has_end_headers f ≡ false → (t : State) → t ≡ with_part_of f s → Quiet t c
    block_part none t e = part_quiet s c f seen greatest h part none (sym few) t e

    module _ (whole : has_end_headers f ≡ true) where
      pub block_reads : (t : State) (fields : List Field) (ends : Bool) (d : Decoder) → ends ≡ (block_in s.block f).last → t ≡ record s { decoder = d; block = None } → BlockIsRead s.decoder (block_in s.block f).text (Ok fields) d → ReadSo t c f fields ends seen greatest
      block_reads t fields ends d last_is e g =
          subst (λ (q : State). ReadSo q c f fields ends seen greatest) (sym e) (record {
            decoder = s.decoder;
            opened = s.block;
            sound_so = h;
            completes = reads s c f h.before h.waits part h.sound (sym few) whole fields ends d (sym last_is) g;
            none_open = refl;
          })

      pub block_fault : (t : State) (fault : HpackFault) (d : Decoder) → t ≡ record s { decoder = d; block = None } → BlockIsRead s.decoder (block_in s.block f).text (Err fault) d → TookSo c f (took_fault t.place greatest fault) t
      block_fault t fault d e g =
          let w = h.waits in
          subst (λ (q : State). TookSo c f (took_fault q.place greatest fault) q) (sym e)
          (subst (λ (n : ℕ). TookSo c f (took_fault n greatest fault) (record s { decoder = d; block = None })) (sym (place_is s c f h.before w part h.sound (sym few) whole))
          (fault_took s c f h.before w part h.sound (sym few) whole (record s { decoder = d; block = None }) fault d greatest g w.stands.role_is w.stands.limits_are w.stands.holding_is refl h.seen_so.last_is))

-- ---- a stream error by itself

no_live_error : (limits : H2Limits) (x : List Step) (f : Frame) → (is_headers f || is_continuation f) ≡ true → live_error limits x f ≡ None
no_live_error limits x (kind.Headers b) e = refl
no_live_error limits x (kind.Continuation b) e = refl
no_live_error limits x (kind.Content b) e = absurd (let t : false ≡ true = e in cc)
no_live_error limits x (kind.Priority b) e = absurd (let t : false ≡ true = e in cc)
no_live_error limits x (kind.RstStream b) e = absurd (let t : false ≡ true = e in cc)
no_live_error limits x (kind.Settings b) e = absurd (let t : false ≡ true = e in cc)
no_live_error limits x (kind.PushPromise b) e = absurd (let t : false ≡ true = e in cc)
no_live_error limits x (kind.Ping b) e = absurd (let t : false ≡ true = e in cc)
no_live_error limits x (kind.GoAway b) e = absurd (let t : false ≡ true = e in cc)
no_live_error limits x (kind.WindowUpdate b) e = absurd (let t : false ≡ true = e in cc)
no_live_error limits x (kind.Unknown other b) e = absurd (let t : false ≡ true = e in cc)

-- its block is complete
ends_by : (t live : Bool) (o : Option Block) (role : Role) (limits : H2Limits) (x : List Step) (f : Frame) (error : Option ErrorCode) (why : ErrorCode) → error ≡ None →
    option_or (if live then error else None) (completed_error role limits x f false (if t then o else None)) ≡ Some why → t ≡ true
ends_by true live o role limits x f error why none e = refl
ends_by false true o role limits x f error why none e = absurd (let z : None ≡ Some why = ap (λ (q : Option ErrorCode). option_or q None) (sym none) ∙ e in cc)
ends_by false false o role limits x f error why none e = absurd (let z : None ≡ Some why = e in cc)

module _ (s : State) (c : ConnectionTrace) (f : Frame) (why : ErrorCode) (seen : SeenStream) (greatest : ℕ) (h : Faulty s c f why seen greatest) (part : (is_headers f || is_continuation f) ≡ true) where
  pub faulty_limit : (cause : CalmCause) → limit_of (block_in s.block f) ≡ Some cause → Ending s c (by.Calm cause) greatest
  faulty_limit cause e = limit_ends s c f h.before h.waits part h.sound cause greatest e h.seen_so.last_is

  whole : has_end_headers f ≡ true
  whole =
      ends_by (has_end_headers f) (is_live c.role c.frames (stream_of f)) (block_with (open_block (received c.frames)) f) c.role c.limits c.frames f (live_error c.limits c.frames f) why (no_live_error c.limits c.frames f part) h.fault

  module _ (few : None ≡ limit_of (block_in s.block f)) where
    pub faulty_reads : (t : State) (fields : List Field) (d : Decoder) → t ≡ record s { decoder = d; block = None } → BlockIsRead s.decoder (block_in s.block f).text (Ok fields) d → ReadFaulty t c f fields why seen greatest
    faulty_reads t fields d e g =
        subst (λ (q : State). ReadFaulty q c f fields why seen greatest) (sym e) (record {
          decoder = s.decoder;
          opened = s.block;
          ends = (block_in s.block f).last;
          faulty_so = h;
          completes = reads s c f h.before h.waits part h.sound (sym few) whole fields (block_in s.block f).last d refl g;
          none_open = refl;
        })

    pub faulty_fault : (t : State) (fault : HpackFault) (d : Decoder) → t ≡ record s { decoder = d; block = None } → BlockIsRead s.decoder (block_in s.block f).text (Err fault) d → TookSo c f (took_fault t.place greatest fault) t
    faulty_fault t fault d e g =
        let w = h.waits in
        subst (λ (q : State). TookSo c f (took_fault q.place greatest fault) q) (sym e)
        (subst (λ (n : ℕ). TookSo c f (took_fault n greatest fault) (record s { decoder = d; block = None })) (sym (place_is s c f h.before w part h.sound (sym few) whole))
        (fault_took s c f h.before w part h.sound (sym few) whole (record s { decoder = d; block = None }) fault d greatest g w.stands.role_is w.stands.limits_are w.stands.holding_is refl h.seen_so.last_is))
