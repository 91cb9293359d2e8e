-- What is known of bytes and answers, one part after another.
use Rattle.std.proofs.Common.{◌≡◌, ℕ, List, [], ◌∷◌, ◌++◌, Option, Some, None, refl, sym, ◌∙◌, ap, subst, append_assoc}
use Rattle.std.{specs.Io.KnownBytes.Appends, specs.Io.KnownBytes.Consumes, proofs.lemmas.List.append-nil}
use Rattle.of_replay.specs.Told.{Answer, Gave, Known, Told, Left, Answers, answer_bytes, given}
use Rattle.of_replay.specs.Transfer.{AllAnswers}

-- BYTES

pub appends-none : (k : Option (List ℕ)) → Appends k k []
appends-none None = tt
appends-none (Some bs) = sym (append-nil bs)

pub appends-then : (a b c : Option (List ℕ)) (x y : List ℕ) → Appends a b x → Appends b c y → Appends a c (x ++ y)
appends-then None b c x y p q = tt
appends-then (Some a) None c x y p q = absurd p
appends-then (Some a) (Some b) None x y p q = absurd q
appends-then (Some a) (Some b) (Some c) x y p q = q ∙ (ap (λ (bs : List ℕ). bs ++ y) p ∙ append_assoc a x y)

consumes-none : (k : Option (List ℕ)) → Consumes k k []
consumes-none None = tt
consumes-none (Some bs) = refl

consumes-then : (a b c : Option (List ℕ)) (x y : List ℕ) → Consumes a b x → Consumes b c y → Consumes a c (x ++ y)
consumes-then None b c x y p q = tt
consumes-then (Some a) None c x y p q = absurd p
consumes-then (Some a) (Some b) None x y p q = absurd q
consumes-then (Some a) (Some b) (Some c) x y p q = p ∙ (ap (λ (bs : List ℕ). x ++ bs) q ∙ sym (append_assoc x y c))

-- ANSWERS

pub given-more : (more : List Answer) (one : Answer) → given (more ++ one ∷ []) ≡ given more ++ answer_bytes one
given-more [] one = append-nil (answer_bytes one)
given-more (a ∷ more) one = ap (λ (x : List ℕ). answer_bytes a ++ x) (given-more more one) ∙ sym (append_assoc (answer_bytes a) (given more) (answer_bytes one))

pub answers-none : (k : Known) → AllAnswers k k []
answers-none (Told answers) = sym (append-nil answers)
answers-none (Left bytes) = consumes-none bytes

-- an answer more
pub told_more : (answers now next : Known) (more : List Answer) (one : Answer) → AllAnswers answers now more → Answers now next one → AllAnswers answers next (more ++ one ∷ [])
told_more (Told a) (Told b) (Told c) more one p q = q ∙ (ap (λ (x : List Answer). x ++ one ∷ []) p ∙ append_assoc a more (one ∷ []))
told_more (Told a) (Told b) (Left c) more one p q = absurd q
told_more (Told a) (Left b) c more one p q = absurd p
told_more (Left a) (Told b) c more one p q = absurd p
told_more (Left a) (Left b) (Told c) more one p q = absurd q
told_more (Left a) (Left b) (Left c) more one p q = subst (Consumes a c) (sym (given-more more one)) (consumes-then a b c (given more) (answer_bytes one) p q)

-- a chunk that equals what was given
pub gave_front : (now next : Known) (chunk front : List ℕ) → front ≡ chunk → Answers now next (Gave chunk) → Answers now next (Gave front)
gave_front now next chunk front e a = subst (λ (x : List ℕ). Answers now next (Gave x)) (sym e) a
