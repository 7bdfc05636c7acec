-- Names and values of fields are bytes.
use Rattle.std.proofs.Common.{◌≡◌, ◌<◌, ◌≤◌, ℕ, ◌+◌, List, length, drop, get_or, subst, sym}
use Rattle.std.proofs.lemmas.List.Elements.{All-cons, All-nil}
use Rattle.hpack_huffman.specs.Faults.{IsText}
use Rattle.hpack_tables.specs.declared.field.Field.{Field}
use Rattle.hpack_tables.specs.Laws.{AreBytes}
use Rattle.hpack_tables.proofs.FieldsWritten.{one_front, none_left}

pub one_more_has : (fs : List Field) (i : ℕ) (f : Field) → i < length fs → f ≡ get_or fs i f → IsText f.name × IsText f.value →
    (AreBytes (drop i fs) → AreBytes fs) → AreBytes (drop (i + 1) fs) → AreBytes fs
one_more_has fs i f lt item has so_far rest =
    so_far (subst AreBytes (sym (one_front fs i f lt item)) (All-cons (λ (g : Field). IsText g.name × IsText g.value) f (drop (i + 1) fs) has rest))

pub all_have : (fs : List Field) (i : ℕ) → length fs ≤ i → (AreBytes (drop i fs) → AreBytes fs) → AreBytes fs
all_have fs i le so_far = so_far (subst AreBytes (sym (none_left fs i le)) (All-nil (λ (g : Field). IsText g.name × IsText g.value)))
