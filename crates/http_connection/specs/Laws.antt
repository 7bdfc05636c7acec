-- What a connection sends as it gives its events.
use Rattle.std.specs.Prelude.{◌≡◌, ℕ, Bool, List, None}
use Rattle.h2_frames.specs.declared.code.ErrorCode.{ErrorCode}
use Rattle.h2_exchange.specs.Events.{Event}
use Rattle.h2_exchange.specs.Exchange.{Step, received}
use Rattle.h2_exchange.specs.Order.{AreFrames, peer_preface}
use Rattle.h2_exchange.specs.Outgoing.{SendsOnly}
use Rattle.h2_exchange.specs.Stops.{Stop}
use Rattle.http_connection.specs.Answers.{GivesEvents, Stops}
use Rattle.http_connection.specs.ConnectionTrace.{ConnectionTrace, IsSound, stop_in}

abbrev pub SendsIn : (List Step → ℕ → ErrorCode → Bool) → List ℕ → ConnectionTrace → Type 0
SendsIn is_asked rest c = SendsOnly c.role c.limits c.heads is_asked c.fed rest c.frames

-- what is sent with events may be sent
abbrev pub EventsSend : Type 0
EventsSend =
    (is_asked : List Step → ℕ → ErrorCode → Bool) (rest : List ℕ) (c d : ConnectionTrace) (es : List Event) (output later : List ℕ) → IsSound c output →
    IsSound d later → GivesEvents c es d →
    SendsIn is_asked rest c → SendsIn is_asked rest d

-- and what is sent before a refusal
abbrev pub RefusalsSend : Type 0
RefusalsSend =
    (is_asked : List Step → ℕ → ErrorCode → Bool) (rest : List ℕ) (c d : ConnectionTrace) (stop : Stop) (output later : List ℕ) → IsSound c output →
    IsSound d later → Stops c stop d →
    (stop_in d ≡ None → AreFrames (peer_preface d.role) d.fed (received d.frames) rest) → SendsIn is_asked rest c → SendsIn is_asked rest d
