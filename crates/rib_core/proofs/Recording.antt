-- The calls of a lock as the record of the table.
use Rattle.std.proofs.Common.{◌≡◌, ℕ, suc, ◌≤◌, ◌<◌, ◌^◌, Bool, true, false, map, reverse, List, [], ◌∷◌, ◌++◌, length, if◌then◌else◌, sym, ap, ◌∙◌, subst, arith}
use Rattle.std.proofs.lemmas.List.{length-map, length-reverse, map-append, reverse-append}
use Rattle.table_lock.specs.declared.machine.Entry.{Entry}
use Rattle.table_model.specs.declared.command.Command.{Command}
use Rattle.table_model.specs.declared.reply.Reply.{Reply}
use Rattle.table_model.specs.Event.{Event, events, is_no_memory}
use Rattle.rib_core.specs.Core.{Core}
use Rattle.rib_core.specs.Recorded.{Stands, event_of, recorded}
use Rattle.rib_core.specs.Stands.{Acts, StandsFor}

-- one more call is the newest event
pub recorded_with : (calls : List (Entry Command Reply)) (call : Entry Command Reply) → recorded (calls ++ call ∷ []) ≡ event_of call ∷ recorded calls
recorded_with calls call =
    ap (λ (es : List Event). reverse es) (map-append event_of calls (call ∷ [])) ∙ reverse-append (map event_of calls) (event_of call ∷ [])

-- no more events count than were recorded
fewer_if : (b : Bool) (e : Event) (past : List Event) (n : ℕ) → length past ≤ n → length (if b then past else e ∷ past) ≤ suc n
fewer_if true e past n h = omega arith
fewer_if false e past n h = omega arith

fewer : (past : List Event) → length (events past) ≤ length past
unfolding events
fewer [] = omega arith
fewer (e ∷ past) = fewer_if (is_no_memory e.reply) e (events past) (length past) (fewer past)

pub has_room : (core : Core) (calls : List (Entry Command Reply)) → Stands core calls → length calls < 2 ^ 62 → core.count < 2 ^ 62
has_room core calls h below =
    let count : core.count ≡ length (events (recorded calls)) = h.keeps.count in
    let most : length (events (recorded calls)) ≤ length (recorded calls) = fewer (recorded calls) in
    let same : length (recorded calls) ≡ length calls = length-reverse (map event_of calls) ∙ length-map calls event_of in
    omega arith

pub acts_on : (old : Core) (by : ℕ) (command : Command) (reply : Reply) (new : Core) (calls : List (Entry Command Reply)) → Acts old command reply new → Stands old calls →
    Stands new (calls ++ record { by = by; command = command; reply = reply } ∷ [])
acts_on old by command reply new calls acts h =
    subst (λ (es : List Event). StandsFor new es) (sym (recorded_with calls (record { by = by; command = command; reply = reply }))) (acts (recorded calls) h)
