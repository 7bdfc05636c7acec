-- What one encoder wrote under the sizes that its peer announced is read again.
use Rattle.std.proofs.Common.{◌≡◌, ℕ, Bool, true, false, map, List, [], ◌∷◌, ◌++◌, Option, Some, None, Ok, refl, sym, ap, subst, ◌∙◌, arith}
use Rattle.std.specs.Prelude.{◌==◌, option_to_list, fold, All, if◌then◌else◌}
use Rattle.std.proofs.lemmas.List.Elements.{All-head, All-tail}
use Rattle.hpack_tables.specs.declared.field.Field.{Field}
use Rattle.hpack_tables.specs.Laws.{AreInStep}
use Rattle.hpack_tables.specs.Reading.{State}
use Rattle.hpack_tables.specs.Writing.{Encoder, limited, fresh}
use Rattle.hpack_tables.proofs.FieldsRead.{written_is_read, stays_in_step}
use Rattle.h2_exchange.specs.Blocks.{Block, open_block, blocks_behind, completed_by, left_open}
use Rattle.h2_exchange.specs.Compression.{limited_by, IsWritten, AreWritten, IsWritable}
use Rattle.h2_exchange.specs.Content.{ReadOver}
use Rattle.h2_exchange.specs.Exchange.{Step, Received, Sent, sent}
use Rattle.h2_exchange.specs.Laws.{WrittenBlocksAreRead}
use Rattle.h2_exchange.specs.Windows.{settings_in}
use Rattle.h2_exchange.proofs.Steps.{sent_push, sent_received, header_blocks_grow}

limited_if : (b : Bool) (size : ℕ) (e : Encoder) (entries : List Field) (max : ℕ) → AreInStep e entries max → AreInStep (if b then limited size e else e) entries max
limited_if true size e entries max step = stays_in_step e entries max size step
limited_if false size e entries max step = step

limited_all : (settings : List (ℕ × ℕ)) (e : Encoder) (entries : List Field) (max : ℕ) → AreInStep e entries max → AreInStep (fold (λ now s. if s.0 == 1 then limited s.1 now else now) e settings) entries max
limited_all [] e entries max step = step
limited_all (s ∷ settings) e entries max step = limited_all settings (if s.0 == 1 then limited s.1 e else e) entries max (limited_if (s.0 == 1) s.1 e entries max step)

-- the block of one frame, and then those behind it
one_read : (o : Option Block) (bs : List Block) (e next : Encoder) (lists more : List (List Field)) (entries : List Field) (max : ℕ) →
    AreInStep e entries max → All IsWritable lists → IsWritten e o lists more next →
    ((now : List Field) (size : ℕ) → AreInStep next now size → All IsWritable more → ReadOver now size bs (map Ok more)) →
    ReadOver entries max (option_to_list o ++ bs) (map Ok lists)
one_read None bs e next lists more entries max step good (more_is, next_is) others =
    subst (λ (l : List (List Field)). ReadOver entries max bs (map Ok l)) more_is (others entries max (subst (λ (n : Encoder). AreInStep n entries max) (sym next_is) step) (subst (All IsWritable) (sym more_is) good))
one_read (Some b) bs e next lists more entries max step good (fields, lists_are, w) others =
    let fits : All IsWritable (fields ∷ more) = subst (All IsWritable) lists_are good in
    let one : IsWritable fields = All-head IsWritable fields more fits in
    let r = written_is_read 4096 e next fields b.text entries max one.0 one.1 step.small step w in
    let after : State = record { entries = next.entries; max = next.max; fields = fields } in
    subst (λ (l : List (List Field)). ReadOver entries max (b ∷ bs) (map Ok l)) (sym lists_are) (after, r.0, refl, others next.entries next.max r.1 (All-tail IsWritable fields more fits))

all_read : (x past : List Step) (e last : Encoder) (lists : List (List Field)) (opened : Option Block) (entries : List Field) (max : ℕ) →
    open_block (sent past) ≡ opened → AreInStep e entries max → All IsWritable lists → AreWritten e past x lists last →
    ReadOver entries max (blocks_behind opened (sent x)) (map Ok lists)
all_read [] past e last lists opened entries max open_is step good (lists_are, last_is) =
    subst (λ (l : List (List Field)). ReadOver entries max [] (map Ok l)) (sym lists_are) tt
all_read (Received f ∷ x) past e last lists opened entries max open_is step good written =
    all_read x (past ++ Received f ∷ []) (limited_by f e) last lists opened entries max (ap open_block (sent_received past f) ∙ open_is) (limited_all (settings_in f) e entries max step) good written
all_read (Sent f ∷ x) past e last lists opened entries max open_is step good (more, next, one, others) =
    one_read (completed_by opened f) (blocks_behind (left_open opened f) (sent x)) e next lists more entries max step good
    (subst (λ (o : Option Block). IsWritten e (completed_by o f) lists more next) open_is one)
    (λ now size in_step fits. all_read x (past ++ Sent f ∷ []) next last more (left_open opened f) now size
    (ap open_block (sent_push past f) ∙ header_blocks_grow.open_push (sent past) f ∙ ap (λ (o : Option Block). left_open o f) open_is) in_step fits others)

pub written_blocks_are_read : WrittenBlocksAreRead
written_blocks_are_read style x lists last good written =
    all_read x [] (fresh style) last lists None [] 4096 refl (record { room = omega arith; small = omega arith; same = (refl, refl) }) good written
