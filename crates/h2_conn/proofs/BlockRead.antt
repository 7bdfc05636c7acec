-- A frame that completes its header block, which is read.
use Rattle.std.proofs.Common.{◌≡◌, ℕ, ◌≤◌, Bool, true, false, ◌||◌, List, [], ◌∷◌, ◌++◌, length, length-append, Option, Some, None, Ok, Err, refl, sym, ap, subst, ◌∙◌, arith}
use Rattle.std.specs.Prelude.{nat_lt, option_map, option_to_list, sum_by, MatchOption, if◌then◌else◌}
use Rattle.std.specs.Option.{option_or}
use Rattle.h2_frames.specs.declared.code.TheConstants.ErrorCode as code
use Rattle.h2_frames.specs.declared.frame.Frame.{Frame}
use Rattle.hpack_tables.specs.Answers.{FaultIsAllowedBy}
use Rattle.hpack_tables.specs.Decoder.{Decoder, GivesFields, RefusesBlock, begun}
use Rattle.hpack_tables.specs.EntrySizes.{size_of}
use Rattle.hpack_tables.specs.Reading.{BlockAt}
use Rattle.hpack_tables.specs.declared.fault.HpackFault.{HpackFault}
use Rattle.hpack_tables.specs.declared.fault.HpackFault.TheVariants.{BadIndex, BadInteger, BadString, LateSizeUpdate, SizeTooLarge, ListTooLong, NoMemory}
use Rattle.hpack_tables.specs.declared.field.Field.{Field}
use Rattle.h2_exchange.specs.declared.limits.CalmCause.TheVariants.{HeaderList}
use Rattle.h2_exchange.specs.declared.role.Role.{Role}
use Rattle.h2_exchange.specs.Blocks.{Block, block_with, blocks, completed, open_block}
use Rattle.h2_exchange.specs.Content.{Outcome, outcome_at, outcome_for}
use Rattle.h2_exchange.specs.Exchange.{Step, Received, received}
use Rattle.h2_exchange.specs.Frames.{stream_of, has_end_headers, is_continuation, is_headers}
use Rattle.h2_exchange.specs.Outcomes.{AreKnown, ReadFirst}
use Rattle.h2_exchange.specs.Rules.{frame_error}
use Rattle.h2_exchange.specs.Sending.{last_begun}
use Rattle.h2_exchange.specs.Stops.{Calm, Stop, block_stop, content_stop, frame_stop, place_behind}
use Rattle.h2_exchange.proofs.Heads.{all_enough}
use Rattle.h2_exchange.proofs.Steps.{header_blocks_grow, received_push}
use Rattle.h2_streams.specs.Set.{Set}
use Rattle.http_connection.specs.ConnectionTrace.{ConnectionTrace}
use Rattle.h2_conn.specs.declared.heard.End.{End}
use Rattle.h2_conn.specs.declared.heard.End.TheVariants as by
use Rattle.h2_conn.specs.BlocksRead.{Completes}
use Rattle.h2_conn.specs.HeaderParts.{BlockIsRead, block_in, is_long, limit_of, took_fault}
use Rattle.h2_conn.specs.Hears.{Ending, TookSo, stop_by}
use Rattle.h2_conn.specs.State.{State}
use Rattle.h2_conn.specs.Standing.{AreAllRead, Decodes}
use Rattle.h2_conn.specs.Steps.{Waiting}
use Rattle.h2_conn.proofs.Halting.{ending, starves}
use Rattle.h2_conn.proofs.HeaderParts.{all_read_push, last_outcome, read_first_fault}
use Rattle.h2_conn.proofs.Hearing.{as_many, known_by}
use Rattle.h2_conn.proofs.PartHeard.{block_is, block_limit, frame_stop_is}
use Rattle.h2_conn.proofs.Received.{before}

or_some : {A : Type 0} (a b : Option A) (v : A) → a ≡ Some v → option_or a b ≡ Some v
or_some None b v e = absurd cc
or_some (Some w) b v e = e

-- the outcome that comes last is that of the block
pub outcome_last : (role : Role) (heads : List Outcome) (o : Outcome) (x : List Step) (f : Frame) (b : Block) (d : Decoder) → completed (received x) f ≡ Some b → Decodes d (blocks (received x)) heads → outcome_at (heads ++ o ∷ []) x f ≡ Some o
outcome_last role heads o x f b d whole dec =
    ap (outcome_for (heads ++ o ∷ []) (received x)) whole ∙ last_outcome heads o (length (blocks (received x))) (as_many [] 4096 (blocks (received x)) heads d.entries d.max dec.read)

module _ (s : State) (c : ConnectionTrace) (f : Frame) (before_set : Set) (w : Waiting (record s { set = before_set }) c f) (part : (is_headers f || is_continuation f) ≡ true) (sound : frame_error c.role c.frames f ≡ None)
    (few : limit_of (block_in s.block f) ≡ None) (ends_block : has_end_headers f ≡ true) where
  abbrev prior : State
  prior = record s { set = before_set }

  abbrev b : Block
  b = block_in s.block f

  dec : Decodes s.decoder (blocks (received c.frames)) c.heads
  dec = (before prior c f [] w).decodes

  both : (block_with (open_block (received c.frames)) f ≡ Some b) × (b.stream ≡ stream_of f)
  both = block_is s c f before_set w part sound few

  whole : completed (received c.frames) f ≡ Some b
  whole = ap (λ (t : Bool). if t then block_with (open_block (received c.frames)) f else None) ends_block ∙ both.0

  blocks_now : blocks (received c.frames ++ f ∷ []) ≡ blocks (received c.frames) ++ b ∷ []
  blocks_now = header_blocks_grow.blocks_push (received c.frames) f ∙ ap (λ (o : Option Block). blocks (received c.frames) ++ option_to_list o) whole

  fits : block_stop (Some b) ≡ None
  fits = ap block_stop (sym both.0) ∙ block_limit s c f before_set w part sound ∙ ap (option_map Calm) few

  pub reads : (fields : List Field) (ends : Bool) (d : Decoder) → b.last ≡ ends → GivesFields s.decoder b.text fields d → Completes c f fields ends d
  reads fields ends d last_is g = record {
    block = b;
    part = part;
    whole = whole;
    last_is = last_is;
    on = both.1;
    fits = fits;
    closed = header_blocks_grow.open_push (received c.frames) f ∙ ap (λ (t : Bool). if t then None else block_with (open_block (received c.frames)) f) ends_block;
    decodes = record {
      alive = g.goes_on;
      limit = g.limit ∙ dec.limit;
      read = subst (λ (bs : List Block). AreAllRead [] 4096 bs (c.heads ++ Ok fields ∷ []) d.entries d.max) (sym blocks_now)
          (all_read_push [] 4096 (blocks (received c.frames)) c.heads s.decoder.entries s.decoder.max b (record { entries = d.entries; max = d.max; fields = fields }) dec.read
          (subst (λ (n : ℕ). BlockAt n (begun s.decoder) b.text (Ok (record { entries = d.entries; max = d.max; fields = fields }))) dec.limit g.gives));
    };
  }

  -- ---- a fault

  module _ (fault : HpackFault) (read : BlockAt 4096 (begun s.decoder) b.text (Err fault)) where
    abbrev hs : List Outcome
    hs = c.heads ++ Err fault ∷ []

    count : length (blocks (received (c.frames ++ Received f ∷ []))) ≤ length hs
    count =
        let n = as_many [] 4096 (blocks (received c.frames)) c.heads s.decoder.entries s.decoder.max dec.read in
        let m : length (blocks (received (c.frames ++ Received f ∷ []))) ≡ length (blocks (received c.frames) ++ b ∷ []) = ap (λ (fs : List Frame). length (blocks fs)) (received_push c.frames f) ∙ ap length blocks_now in
        omega (arith, n, m, length-append (blocks (received c.frames)) (b ∷ []), length-append c.heads (Err fault ∷ []))

    known : AreKnown c.role c.limits hs (c.frames ++ Received f ∷ [])
    known = record {
      read = subst (λ (bs : List Block). ReadFirst [] 4096 bs hs) (sym (ap blocks (received_push c.frames f) ∙ blocks_now))
          (read_first_fault [] 4096 (blocks (received c.frames)) c.heads s.decoder.entries s.decoder.max b fault dec.read read);
      enough = all_enough c.role c.limits hs (c.frames ++ Received f ∷ []) count;
    }

    fault_ends : (t : State) (end : End) (greatest : ℕ) → content_stop c.limits (place_behind c.role c.frames) (Some (Err fault)) ≡ Some (stop_by end) → c.role ≡ t.role → c.limits ≡ t.limits → c.is_holding ≡ t.is_holding → t.output ≡ s.output → last_begun c.role c.frames ≡ greatest →
        Ending t c end greatest
    fault_ends t end greatest stop role limits holding output same =
        let content : content_stop c.limits (place_behind c.role c.frames) (outcome_at hs c.frames f) ≡ Some (stop_by end) =
        ap (content_stop c.limits (place_behind c.role c.frames)) (outcome_last c.role c.heads (Err fault) c.frames f b s.decoder whole dec) ∙ stop in
        let here : frame_stop c.role c.limits hs c.frames f ≡ Some (stop_by end) =
        frame_stop_is c.role c.limits hs c.frames f sound ∙ ap (λ (o : Option Stop). option_or o (content_stop c.limits (place_behind c.role c.frames) (outcome_at hs c.frames f))) (ap block_stop both.0 ∙ fits) ∙ content in
        ending prior t c f (Err fault ∷ []) w role limits holding output end greatest (or_some (frame_stop c.role c.limits hs c.frames f) _ (stop_by end) here) known same

  fault_reads : (fault : HpackFault) (d : Decoder) → RefusesBlock s.decoder b.text fault d → FaultIsAllowedBy fault (BlockAt 4096 (begun s.decoder) b.text)
  fault_reads fault d r =
      subst (λ (n : ℕ). FaultIsAllowedBy fault (BlockAt n (begun s.decoder) b.text)) dec.limit
      (subst (λ (o : Option HpackFault). MatchOption o (FaultIsAllowedBy fault (BlockAt s.decoder.limit (begun s.decoder) b.text)) (λ earlier. fault ≡ earlier)) dec.alive r.cause)

  -- what becomes of the connection
  pub fault_took : (t : State) (fault : HpackFault) (d : Decoder) (greatest : ℕ) → BlockIsRead s.decoder b.text (Err fault) d → c.role ≡ t.role → c.limits ≡ t.limits → c.is_holding ≡ t.is_holding → t.output ≡ s.output → last_begun c.role c.frames ≡ greatest →
      TookSo c f (took_fault (place_behind c.role c.frames) greatest fault) t
  fault_took t NoMemory d greatest r role limits holding output same = starves prior t c f w role limits holding output
  fault_took t ListTooLong d greatest r role limits holding output same = fault_ends ListTooLong (fault_reads ListTooLong d r) t (by.Calm HeaderList) greatest refl role limits holding output same
  fault_took t BadIndex d greatest r role limits holding output same = fault_ends BadIndex (fault_reads BadIndex d r) t (by.Broken code.COMPRESSION_ERROR (place_behind c.role c.frames)) greatest refl role limits holding output same
  fault_took t BadInteger d greatest r role limits holding output same = fault_ends BadInteger (fault_reads BadInteger d r) t (by.Broken code.COMPRESSION_ERROR (place_behind c.role c.frames)) greatest refl role limits holding output same
  fault_took t BadString d greatest r role limits holding output same = fault_ends BadString (fault_reads BadString d r) t (by.Broken code.COMPRESSION_ERROR (place_behind c.role c.frames)) greatest refl role limits holding output same
  fault_took t LateSizeUpdate d greatest r role limits holding output same = fault_ends LateSizeUpdate (fault_reads LateSizeUpdate d r) t (by.Broken code.COMPRESSION_ERROR (place_behind c.role c.frames)) greatest refl role limits holding output same
  fault_took t SizeTooLarge d greatest r role limits holding output same = fault_ends SizeTooLarge (fault_reads SizeTooLarge d r) t (by.Broken code.COMPRESSION_ERROR (place_behind c.role c.frames)) greatest refl role limits holding output same

  pub place_is : s.place ≡ place_behind c.role c.frames
  place_is = (before prior c f [] w).place_is

-- ---- a list that is too long, or not

module _ (s s0 : State) (c : ConnectionTrace) (f : Frame) (fields : List Field) (ends : Bool) (before_set : Set) (w : Waiting (record s0 { set = before_set }) c f) (sound : frame_error c.role c.frames f ≡ None) (k : Completes c f fields ends s.decoder) where
  abbrev hs2 : List Outcome
  hs2 = c.heads ++ Ok fields ∷ []

  pub outcome_is : outcome_at hs2 c.frames f ≡ Some (Ok fields)
  outcome_is = outcome_last c.role c.heads (Ok fields) c.frames f k.block s0.decoder k.whole (before (record s0 { set = before_set }) c f [] w).decodes

  part_fits : block_stop (block_with (open_block (received c.frames)) f) ≡ None
  part_fits = by_end (has_end_headers f) (block_with (open_block (received c.frames)) f) k.block k.whole k.fits
    where
      by_end : (t : Bool) (o : Option Block) (b : Block) → (if t then o else None) ≡ Some b → block_stop (Some b) ≡ None → block_stop o ≡ None
      by_end true o b e q = ap block_stop e ∙ q
      by_end false o b e q = absurd cc

  pub content_goes : frame_stop c.role c.limits hs2 c.frames f ≡ (if nat_lt c.limits.list (sum_by size_of fields) then Some (Calm HeaderList) else None)
  content_goes =
      frame_stop_is c.role c.limits hs2 c.frames f sound
      ∙ ap (λ (o : Option Stop). option_or o (content_stop c.limits (place_behind c.role c.frames) (outcome_at hs2 c.frames f))) part_fits
      ∙ ap (content_stop c.limits (place_behind c.role c.frames)) outcome_is

  pub long_ends : (t : State) (greatest : ℕ) → is_long c.limits.list fields ≡ true → c.role ≡ t.role → c.limits ≡ t.limits → c.is_holding ≡ t.is_holding → t.output ≡ s0.output → last_begun c.role c.frames ≡ greatest → Ending t c (by.Calm HeaderList) greatest
  long_ends t greatest long role limits holding output same =
      let here : frame_stop c.role c.limits hs2 c.frames f ≡ Some (Calm HeaderList) = content_goes ∙ ap (λ (b : Bool). if b then Some (Calm HeaderList) else None) long in
      ending (record s0 { set = before_set }) t c f (Ok fields ∷ []) w role limits holding output (by.Calm HeaderList) greatest (or_some (frame_stop c.role c.limits hs2 c.frames f) _ (Calm HeaderList) here)
      (known_by c.role c.limits hs2 (c.frames ++ Received f ∷ []) s.decoder (subst (λ (fs : List Frame). Decodes s.decoder (blocks fs) hs2) (sym (received_push c.frames f)) k.decodes)) same
