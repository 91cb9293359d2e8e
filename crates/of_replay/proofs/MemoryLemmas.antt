-- The chunks that a source in memory gave, one after another.
use Rattle.std.proofs.Common.{◌≡◌, ℕ, zero, suc, ◌+◌, ◌-◌, List, [], ◌∷◌, ◌++◌, take, drop, length, replicate, refl, sym, ◌∙◌, ap, arith}
use Rattle.std.{specs.List.sum, proofs.Math.Seq.take-add, proofs.Math.Seq.take-append_seam, proofs.lemmas.List.append-nil, proofs.lemmas.List.drop-drop, proofs.lemmas.List.Sums.sum_by-cons}
use Rattle.std.proofs.lemmas.Grind.{flat_map-append}
use Rattle.of_replay.specs.Told.{Answer, Gave, Ended, Failed, answer_bytes, given}
use Rattle.of_replay.specs.Memory.{chunks_of}

-- one more chunk
pub chunks-more : (bs ns : List ℕ) (n : ℕ) → chunks_of bs (ns ++ n ∷ []) ≡ chunks_of bs ns ++ Gave (take n (drop (sum ns) bs)) ∷ []
chunks-more bs [] n = refl
chunks-more bs (m ∷ ns) n =
    ap (λ (rest : List Answer). Gave (take m bs) ∷ rest) (chunks-more (drop m bs) ns n
    ∙ ap (λ (chunk : List ℕ). chunks_of (drop m bs) ns ++ Gave (take n chunk) ∷ []) (drop-drop (sum ns) m bs ∙ ap (λ (k : ℕ). drop k bs) (sym (sum_by-cons (λ x. x) m ns))))

-- together they are a prefix of the bytes
given-chunks : (bs ns : List ℕ) → given (chunks_of bs ns) ≡ take (sum ns) bs
given-chunks bs [] = refl
given-chunks bs (m ∷ ns) =
    ap (λ (rest : List ℕ). take m bs ++ rest) (given-chunks (drop m bs) ns)
    ∙ (sym (take-add m (sum ns) bs) ∙ ap (λ (k : ℕ). take k bs) (sym (sum_by-cons (λ x. x) m ns)))

given-ends : (n : ℕ) → given (replicate n Ended) ≡ []
given-ends zero = refl
given-ends (suc n) = given-ends n

given-faults : (n : ℕ) → given (replicate n Failed) ≡ []
given-faults zero = refl
given-faults (suc n) = given-faults n

-- ends and faults give nothing
pub given-told : (bs ns : List ℕ) (at ends failures : ℕ) → at ≡ sum ns → given (chunks_of bs ns ++ (replicate ends Ended ++ replicate failures Failed)) ≡ take at bs
given-told bs ns at ends failures e = rw (flat_map-append answer_bytes (chunks_of bs ns), flat_map-append answer_bytes (replicate ends Ended), given-ends, given-faults, append-nil, given-chunks bs ns, e) refl

-- a chunk is recorded before there is an end or a fault
pub told-more : (bs ns : List ℕ) (n ends failures : ℕ) (chunk : List ℕ) → ends ≡ 0 → failures ≡ 0 → chunk ≡ take n (drop (sum ns) bs)
    → chunks_of bs (ns ++ n ∷ []) ++ (replicate ends Ended ++ replicate failures Failed) ≡ (chunks_of bs ns ++ (replicate ends Ended ++ replicate failures Failed)) ++ Gave chunk ∷ []
told-more bs ns n ends failures chunk e f p =
    rw (e, f, p, append-nil (chunks_of bs (ns ++ n ∷ [])), append-nil (chunks_of bs ns)) (chunks-more bs ns n)

-- the start of a buffer, after a chunk was copied there
pub read-front : (copied rest from bs : List ℕ) (at n place : ℕ) → copied ≡ take (at + n - at) (drop at from) → from ≡ bs → at ≡ place → length copied ≡ n
    → take n (copied ++ rest) ≡ take n (drop place bs)
read-front copied rest from bs at n place h f p l =
    ap (λ (k : ℕ). take k (copied ++ rest)) (sym l) ∙ (take-append_seam copied rest ∙ (h ∙ rw (← f, ← p) (ap (λ (k : ℕ). take k (drop at from)) (omega arith))))
