-- What holds of the frames of every list of bytes.
use Rattle.std.specs.Prelude.{◌≡◌, ℕ, List, [], ◌∷◌, ◌++◌, map}
use Rattle.std.specs.List.{flat_map}
use Rattle.h2_frames.specs.declared.code.ErrorCode.{ErrorCode}
use Rattle.h2_frames.specs.declared.code.TheConstants.ErrorCode as codes_of
use Rattle.h2_frames.specs.declared.frame.Frame.{Frame}
use Rattle.h2_frames.specs.Layout.{frame_text, IsPartial}
use Rattle.h2_frames.specs.Stream.{Frames, IsBroken}

-- what stands behind the frames: a rest that is no whole frame, or what is refused, with its place
pub data Ending : Type 0 where
  Waiting : (rest : List ℕ) → Ending
  Broken : (code : ErrorCode) (place : ℕ) → Ending

-- the bytes are these frames, and then this
abbrev pub Reading : List ℕ → List ℕ → List Frame → Ending → Type 0
Reading due bytes frames (Waiting rest) = Frames due bytes frames rest
Reading due bytes frames (Broken code place) = IsBroken due bytes frames code place

-- bytes have one list of frames, and one ending behind it
abbrev pub HaveOneReading : Type 0
HaveOneReading = (due bytes : List ℕ) (fs gs : List Frame) (e d : Ending) → Reading due bytes fs e → Reading due bytes gs d → (fs ≡ gs) × (e ≡ d)

-- frames that were written behind what is due are read again, whatever part of a frame follows them
abbrev pub AreReadAgain : Type 0
AreReadAgain = (due rest : List ℕ) (fs : List Frame) → IsPartial rest → Frames due (due ++ (flat_map frame_text fs ++ rest)) fs rest

-- the numbers of the error codes (RFC 9113, section 7)
abbrev pub ErrorCodesAreNumbered : Type 0
ErrorCodesAreNumbered =
    map (λ (c : ErrorCode). c.0) (
    codes_of.NO_ERROR ∷ codes_of.PROTOCOL_ERROR ∷ codes_of.INTERNAL_ERROR ∷ codes_of.FLOW_CONTROL_ERROR
    ∷ codes_of.SETTINGS_TIMEOUT ∷ codes_of.STREAM_CLOSED ∷ codes_of.FRAME_SIZE_ERROR ∷ codes_of.REFUSED_STREAM
    ∷ codes_of.CANCEL ∷ codes_of.COMPRESSION_ERROR ∷ codes_of.CONNECT_ERROR ∷ codes_of.ENHANCE_YOUR_CALM
    ∷ codes_of.INADEQUATE_SECURITY ∷ codes_of.HTTP_1_1_REQUIRED ∷ []
    )
    ≡ 0 ∷ 1 ∷ 2 ∷ 3 ∷ 4 ∷ 5 ∷ 6 ∷ 7 ∷ 8 ∷ 9 ∷ 10 ∷ 11 ∷ 12 ∷ 13 ∷ []
