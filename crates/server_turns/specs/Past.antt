-- What a connection was used for since its first turn. No object stores it: each turn carries it on.
use Rattle.std.specs.Prelude.{◌≡◌, ◌⊎◌, ℕ, ◌&&◌, ◌||◌, ◌==◌, Bool, true, false, not, reverse, List, [], ◌∷◌, ◌++◌, if◌then◌else◌}
use Rattle.rig_io.specs.Link as link
use Rattle.table_model.specs.declared.command.Command.TheVariants as command
use Rattle.table_model.specs.declared.reply.Reply.{Reply}
use Rattle.table_model.specs.declared.reply.Reply.TheVariants as reply
use Rattle.table_model.specs.Event.{Event}
use Rattle.table_model.specs.Sessions.{params_of, wants_results}

-- the pieces of its link, its own events, and whether the end of the input was given
pub record Past : Type 0 where
  pub pieces : List link.Piece
  pub own : List Event
  pub is_ended : Bool

abbrev pub nothing : Past
nothing = record { pieces = []; own = []; is_ended = false }

abbrev pub gone_on : List link.Piece → List Event → Bool → Past → Past
gone_on pieces own is_ended past = record { pieces = past.pieces ++ pieces; own = past.own ++ own; is_ended = past.is_ended || is_ended }

-- ---- Collects

abbrev is_done : Reply → Bool
is_done reply.RibDone = true
is_done said = false

abbrev is_clear : Reply → Bool
is_clear (reply.Collected given outstanding) = outstanding == 0
is_clear said = false

abbrev pub operates : ℕ → Event → Bool
operates session e = elim e.command [ command.Operate asker operation now ↦ asker == session && is_done e.reply | _ ↦ false ]

abbrev pub collects : ℕ → Event → Bool
collects session e = elim e.command [ command.Collect asker ↦ asker == session | _ ↦ false ]

-- an operation was done, and no Collect behind it said that nothing is outstanding
abbrev pub awaits_from : Bool → ℕ → List Event → Bool
awaits_from awaits session [] = awaits
awaits_from awaits session (e ∷ es) =
    awaits_from (if operates session e then true else if collects session e && is_clear e.reply then false else awaits) session es

-- the session's operations want results that it may have to wait for
abbrev pub awaits : Past → ℕ → Bool
awaits past session = wants_results (params_of (reverse past.own) session) && awaits_from false session past.own

-- a Collect that leaves something outstanding
abbrev pub leaves_some : Event → Bool
leaves_some e = elim e.command [
  | command.Collect session ↦ elim e.reply [ reply.Collected given outstanding ↦ not (outstanding == 0) | _ ↦ false ]
  | _ ↦ false
]

-- an event that shows that a connection got on: any but a Collect without results
abbrev pub is_progress : Event → Bool
is_progress e = elim e.command [
  | command.Collect session ↦ elim e.reply [ reply.Collected given outstanding ↦ elim given [ [] ↦ false | r ∷ rs ↦ true ] | _ ↦ true ]
  | _ ↦ true
]
