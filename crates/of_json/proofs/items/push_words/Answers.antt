use Rattle.std.proofs.Common.{◌∙◌, ◌++◌, ◌∷◌, ℕ, List, [], ap, append_assoc}
use Rattle.std.specs.Prelude.{codes}
use Rattle.of_json.specs.LeavingWords.{frame_words_line}
use Rattle.of_json.proofs.items.push_words.Goals as goal

pub returns : goal.returns
unfolding frame_words_line
returns c =
    let before = c.args.out.now.items in
    let said = codes "    in words: " in
    let words = c.args.words.now in
    c.in_ok-push.ensures.items
    ∙ (ap (λ (l : List ℕ). l ++ 10 ∷ []) (c.in_ok-extend_from_slice-2.ensures.items ∙ ap (λ (l : List ℕ). l ++ words) c.in_ok-extend_from_slice.ensures.items)
    ∙ (append_assoc (before ++ said) words (10 ∷ []) ∙ append_assoc before said (words ++ 10 ∷ [])))
