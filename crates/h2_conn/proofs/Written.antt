-- The header blocks that are written in an exchange with one more step.
use Rattle.std.proofs.Common.{◌≡◌, List, [], ◌∷◌, ◌++◌, Option, Some, None, refl, sym, ap, subst, ◌∙◌}
use Rattle.std.proofs.lemmas.List.{append-nil, append_assoc}
use Rattle.h2_frames.specs.declared.frame.Frame.{Frame}
use Rattle.hpack_tables.specs.declared.field.Field.{Field}
use Rattle.hpack_tables.specs.Writing.{Encoder, Writes}
use Rattle.h2_exchange.specs.Blocks.{Block, completed}
use Rattle.h2_exchange.specs.Compression.{AreWritten, IsWritten, limited_by}
use Rattle.h2_exchange.specs.Exchange.{Step, Received, Sent, sent}

none_here : (e : Encoder) (o : Option Block) (lists : List (List Field)) → o ≡ None → lists ≡ [] → IsWritten e o lists [] e
none_here e None lists p q = (sym q, refl)
none_here e (Some b) lists p q = absurd cc

one_here : (e next : Encoder) (o : Option Block) (b : Block) (fields : List Field) → o ≡ Some b → Writes e fields b.text next → IsWritten e o (fields ∷ []) [] next
one_here e next None b fields p w = absurd cc
one_here e next (Some a) b fields p w = let same : a ≡ b = cc in (fields, refl, subst (λ (k : Block). Writes e fields k.text next) (sym same) w)

more_here : (e next : Encoder) (o : Option Block) (lists more extra : List (List Field)) → IsWritten e o lists more next → IsWritten e o (lists ++ extra) (more ++ extra) next
more_here e next None lists more extra h = (ap (λ (l : List (List Field)). l ++ extra) h.0, h.1)
more_here e next (Some b) lists more extra h = (h.0, ap (λ (l : List (List Field)). l ++ extra) h.1, h.2)

pub written_push : (e : Encoder) (past x : List Step) (f : Frame) (lists : List (List Field)) (last : Encoder) → AreWritten e past x lists last → completed (sent (past ++ x)) f ≡ None → AreWritten e past (x ++ Sent f ∷ []) lists last
written_push e past [] f lists last h p = (
  [],
  e,
  none_here e (completed (sent past) f) lists (ap (λ (y : List Step). completed (sent y) f) (sym (append-nil past)) ∙ p) h.0,
  (refl, h.1),
)
written_push e past (Received g ∷ x) f lists last h p = written_push (limited_by g e) (past ++ Received g ∷ []) x f lists last h (ap (λ (y : List Step). completed (sent y) f) (append_assoc past (Received g ∷ []) x) ∙ p)
written_push e past (Sent g ∷ x) f lists last h p =
    (h.0, h.1, h.2, written_push h.1 (past ++ Sent g ∷ []) x f h.0 last h.3 (ap (λ (y : List Step). completed (sent y) f) (append_assoc past (Sent g ∷ []) x) ∙ p))

pub written_heard : (e : Encoder) (past x : List Step) (f : Frame) (lists : List (List Field)) (last : Encoder) → AreWritten e past x lists last → AreWritten e past (x ++ Received f ∷ []) lists (limited_by f last)
written_heard e past [] f lists last h = (h.0, ap (limited_by f) h.1)
written_heard e past (Received g ∷ x) f lists last h = written_heard (limited_by g e) (past ++ Received g ∷ []) x f lists last h
written_heard e past (Sent g ∷ x) f lists last h = (h.0, h.1, h.2, written_heard h.1 (past ++ Sent g ∷ []) x f h.0 last h.3)

pub written_block : (e : Encoder) (past x : List Step) (f : Frame) (lists : List (List Field)) (last next : Encoder) (b : Block) (fields : List Field) → AreWritten e past x lists last →
    completed (sent (past ++ x)) f ≡ Some b → Writes last fields b.text next → AreWritten e past (x ++ Sent f ∷ []) (lists ++ fields ∷ []) next
written_block e past [] f lists last next b fields h p w =
    let here : completed (sent past) f ≡ Some b = ap (λ (y : List Step). completed (sent y) f) (sym (append-nil past)) ∙ p in (
      [],
      next,
      subst (λ (l : List (List Field)). IsWritten e (completed (sent past) f) (l ++ fields ∷ []) [] next) (sym h.0)
          (one_here e next (completed (sent past) f) b fields here (subst (λ (k : Encoder). Writes k fields b.text next) h.1 w)),
      (refl, refl),
    )
written_block e past (Received g ∷ x) f lists last next b fields h p w =
    written_block (limited_by g e) (past ++ Received g ∷ []) x f lists last next b fields h (ap (λ (y : List Step). completed (sent y) f) (append_assoc past (Received g ∷ []) x) ∙ p) w
written_block e past (Sent g ∷ x) f lists last next b fields h p w = (
  h.0 ++ fields ∷ [],
  h.1,
  more_here e h.1 (completed (sent past) g) lists h.0 (fields ∷ []) h.2,
  written_block h.1 (past ++ Sent g ∷ []) x f h.0 last next b fields h.3 (ap (λ (y : List Step). completed (sent y) f) (append_assoc past (Sent g ∷ []) x) ∙ p) w,
)
