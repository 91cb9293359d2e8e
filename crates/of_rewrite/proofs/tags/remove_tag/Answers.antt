use Rattle.std.proofs.Common.{◌≡◌, ℕ, ◌+◌, ◌-◌, ◌≤◌, List, ◌++◌, length, take, drop, arith, ap, ◌∙◌, append_assoc}
use Rattle.std.proofs.lemmas.List.{take_at, take-take, drop-drop, length-take-le, length-drop, length-append, take_all}
use Rattle.of_rewrite.proofs.tags.remove_tag.Goals as goal

-- four bytes are taken out of the middle by a rotation of the rest
removed : (s r : List ℕ) (n : ℕ) → 16 ≤ length s → n ≡ length s → r ≡ drop 4 (drop 12 s) ++ take 4 (drop 12 s) → (x : List ℕ) →
    take (n - 4) (take n ((take 12 s ++ (r ++ drop (length r) (drop 12 s))) ++ x)) ≡ take 12 s ++ drop 16 s
removed s r n h e f x =
    let front : length (take 12 s) ≡ 12 = length-take-le 12 s (omega arith) in
    let four : length (take 4 (drop 12 s)) ≡ 4 = length-take-le 4 (drop 12 s) (omega (arith, length-drop 12 s)) in
    let back : length (drop 16 s) + 16 ≡ length s = omega (arith, length-drop 16 s) in
    let d : drop 4 (drop 12 s) ≡ drop 16 s = drop-drop 4 12 s in
    let g : (take 12 s ++ (r ++ drop (length r) (drop 12 s))) ++ x ≡ (take 12 s ++ drop 16 s) ++ (take 4 (drop 12 s) ++ (drop (length r) (drop 12 s) ++ x)) = rw (f, d) (simp append_assoc) in
    take-take (n - 4) n ((take 12 s ++ (r ++ drop (length r) (drop 12 s))) ++ x) (omega arith)
    ∙ ap (take (n - 4)) g
    ∙ take_at (take 12 s ++ drop 16 s) (take 4 (drop 12 s) ++ (drop (length r) (drop 12 s) ++ x)) (n - 4) (omega (arith, length-append (take 12 s) (drop 16 s)))

rest_is : (s : List ℕ) (n : ℕ) → n ≡ length s → take (n - 12) (drop 12 s) ≡ drop 12 s
rest_is s n e = take_all (n - 12) (drop 12 s) (omega (arith, length-drop 12 s))

pub returns : goal.returns
returns c =
    let len : c.args.bytes.now.len ≡ length c.args.bytes.now.items = c.args.bytes.now.ok.0 in
    let part : c.slice_mut.result.now ≡ drop 12 c.args.bytes.now.items = c.slice_mut.ensures.value ∙ rest_is c.args.bytes.now.items c.args.bytes.now.len len in
    c.truncate.ensures.items ∙ rw c.len.ensures (removed c.args.bytes.now.items c.rotate_left.new.self c.args.bytes.now.len c.requires len (rw part at c.rotate_left.ensures.after) _)
