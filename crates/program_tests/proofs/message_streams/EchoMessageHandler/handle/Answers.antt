use Rattle.std.proofs.Common.{rules, ◌≡◌, ◌∷◌, [], ◌++◌, true, false, List, ℕ, subst, sym}
use Rattle.std.specs.Str.{bytes_eq}
use Rattle.message_run.specs.Behaviour.{Appends, Behaviour}
use Rattle.message_run.specs.declared.message_handler.Handled.{Handled}
use Rattle.message_run.specs.declared.message_handler.Handled.TheVariants.{Continue, Ends, Unreadable, NoMemory}
use Rattle.message_run.proofs.Agreeing.{handles_alike}
use Rattle.program_tests.specs.Echoes.{echo}
use Rattle.program_tests.proofs.Echoing.{unread, ends, goes_on, nothing}
use Rattle.program_tests.proofs.message_streams.EchoMessageHandler.handle.Goals as goal

-- a behaviour that is the server's appends what it does
for_it : (f : Behaviour) (done : List (List ℕ)) (m : List ℕ) (answer : Handled) (before after : List ℕ) → f ≡ echo → Appends (echo done m) answer before after → Appends (f done m) answer before after
for_it f done m answer before after is h = subst (λ (g : Behaviour). Appends (g done m) answer before after) (sym is) h

pub returns-then-eq-clause-handles : goal.returns-then-eq-clause-handles
returns-then-eq-clause-handles c = λ so_far done h few.
    let eight : bytes_eq c.args.message.now (8 ∷ []) ≡ true = search rules in
    handles_alike _ _ so_far done c.args.message.now (Unreadable 2) _ _ h (for_it so_far done c.args.message.now (Unreadable 2) _ _ h (unread done c.args.message.now c.args.out.now.items c.args.out.now.items eight)) h

pub returns-then-is_err-clause-handles : goal.returns-then-is_err-clause-handles
returns-then-is_err-clause-handles c = λ so_far done h few.
    let same : c.extend_from_slice.new.self.items ≡ c.args.out.now.items = search rules in
    handles_alike _ _ so_far done c.args.message.now NoMemory _ _ h (for_it so_far done c.args.message.now NoMemory _ _ h (nothing done c.args.message.now c.args.out.now.items c.extend_from_slice.new.self.items same)) tt

pub returns-then-eq-2-clause-handles : goal.returns-then-eq-2-clause-handles
returns-then-eq-2-clause-handles c = λ so_far done h few.
    let eight : bytes_eq c.args.message.now (8 ∷ []) ≡ false = search rules in
    let nine : bytes_eq c.args.message.now (9 ∷ []) ≡ true = search rules in
    let appended : c.extend_from_slice.new.self.items ≡ c.args.out.now.items ++ c.args.message.now = search rules in
    handles_alike _ _ so_far done c.args.message.now (Ends 9) _ _ h (for_it so_far done c.args.message.now (Ends 9) _ _ h (ends done c.args.message.now c.args.out.now.items c.extend_from_slice.new.self.items eight nine appended)) h

pub returns-else-eq-2-clause-handles : goal.returns-else-eq-2-clause-handles
returns-else-eq-2-clause-handles c = λ so_far done h few.
    let eight : bytes_eq c.args.message.now (8 ∷ []) ≡ false = search rules in
    let nine : bytes_eq c.args.message.now (9 ∷ []) ≡ false = search rules in
    let appended : c.extend_from_slice.new.self.items ≡ c.args.out.now.items ++ c.args.message.now = search rules in
    handles_alike _ _ so_far done c.args.message.now Continue _ _ h (for_it so_far done c.args.message.now Continue _ _ h (goes_on done c.args.message.now c.args.out.now.items c.extend_from_slice.new.self.items eight nine appended)) h
