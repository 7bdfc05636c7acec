-- Commands that are answered one after another, the oldest first.
use Rattle.std.specs.Prelude.{◌≡◌, List, [], ◌∷◌, map, fold, reverse}
use Rattle.table_model.specs.declared.command.Command.{Command}
use Rattle.table_model.specs.declared.command.Config.{Config}
use Rattle.table_model.specs.declared.reply.Reply.{Reply}
use Rattle.table_model.specs.Event.{Event}
use Rattle.table_model.specs.Reply.{reply_to}

-- one more command, and the server's reply to it
abbrev pub answered : Config → List Event → Command → List Event
answered config past command = record { command = command; reply = reply_to config past command } ∷ past

-- the history that the commands make from nothing, the newest event first
abbrev pub history_of : Config → List Command → List Event
history_of config commands = fold (answered config) [] commands

-- the server's replies to them
abbrev pub replies : Config → List Command → List Reply
replies config commands = reverse (map (λ e. e.reply) (history_of config commands))

-- the replies are those that are told
abbrev pub HasServerReplies : Config → List Event → Type 0
HasServerReplies config told = replies config (map (λ e. e.command) told) ≡ map (λ e. e.reply) told
