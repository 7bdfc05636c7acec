-- Where no session left since a Halt, by one pass over the history.
use Rattle.std.proofs.Common.{◌≡◌, true, false, List, [], ◌∷◌, ◌++◌, sym, ap, ◌∙◌}
use Rattle.table_model.specs.Event.{Event, is_left}
use Rattle.table_model.specs.Reply.{is_halted}
use Rattle.halt_laws.specs.Settled.{NoLeaveBehindHalt}

-- each event, with whether a Halt stands before it
abbrev pub Quiet : List Event → Type 0
Quiet [] = Unit {0}
Quiet (e ∷ past) = (is_halted past ≡ true → is_left e.reply ≡ false) × Quiet past

head_is : (a b : Event) (xs ys : List Event) → a ∷ xs ≡ b ∷ ys → a ≡ b
head_is a b xs ys is = cc

tail_is : (a b : Event) (xs ys : List Event) → a ∷ xs ≡ b ∷ ys → xs ≡ ys
tail_is a b xs ys is = cc

pub none_left : (past : List Event) → Quiet past → NoLeaveBehindHalt past
none_left [] quiet [] earlier e is halted = cc
none_left [] quiet (x ∷ later) earlier e is halted = cc
none_left (f ∷ past) quiet [] earlier e is halted =
    ap (λ (x : Event). is_left x.reply) (sym (head_is f e past earlier is)) ∙ quiet.0 (ap is_halted (tail_is f e past earlier is) ∙ halted)
none_left (f ∷ past) quiet (x ∷ later) earlier e is halted = none_left past quiet.1 later earlier e (tail_is f x past (later ++ e ∷ earlier) is) halted
