-- Rows in words, line by line and byte by byte.
use Rattle.std.proofs.Common.{◌≡◌, ◌∙◌, ℕ, Bool, true, false, List, [], ◌∷◌, ◌++◌, ◌+◌, ◌<◌, add-one, ap, get_or, length, refl, sym, subst, take, append_assoc, eqb}
use Rattle.std.{specs.Prelude.◌&&◌, specs.Prelude.if◌then◌else◌, proofs.lemmas.List.append-nil, proofs.Math.Seq.take-suc}
use Rattle.of_text.specs.Lines.{ended}
use Rattle.of_replay.{specs.Lexing.last_from, specs.Lexing.whole_lines, proofs.Cutting.last_join, proofs.Cutting.whole_join}
use Rattle.of_explain.specs.Folding.{Fold, IsFolded, folded_lines, folded_text, held_line, is_moment}

-- LINE BY LINE

-- what is printed of a line
abbrev pub shown : Bool → List ℕ → List ℕ
shown left_out line = if left_out then [] else ended line

line_added : (after : Bool) (ls : List (List ℕ)) (x : List ℕ) → folded_lines after (ls ++ x ∷ []) ≡ folded_lines (is_moment x) ls ++ shown (is_moment x && after) x
line_added after [] x = append-nil (shown (is_moment x && after) x)
line_added after (l ∷ []) x =
    let first = shown (is_moment l && is_moment x) l in
    ap (λ (y : List ℕ). first ++ y) (append-nil (shown (is_moment x && after) x)) ∙ ap (λ (y : List ℕ). y ++ shown (is_moment x && after) x) (sym (append-nil first))
line_added after (l ∷ m ∷ ls) x =
    let first = shown (is_moment l && is_moment m) l in
    ap (λ (y : List ℕ). first ++ y) (line_added after (m ∷ ls) x) ∙ sym (append_assoc first (folded_lines (is_moment x) (m ∷ ls)) (shown (is_moment x && after) x))

-- the last line is printed, or waits
with_held : (ls : List (List ℕ)) → folded_lines false ls ≡ folded_lines true ls ++ held_line ls
with_held [] = refl
with_held (l ∷ []) = by_test (is_moment l)
  where
    by_test : (t : Bool) → shown (t && false) l ++ [] ≡ (shown (t && true) l ++ []) ++ (if t then ended l else [])
    by_test true = append-nil (ended l)
    by_test false = sym (append-nil (ended l ++ []))
with_held (l ∷ m ∷ ls) =
    let first = shown (is_moment l && is_moment m) l in
    ap (λ (y : List ℕ). first ++ y) (with_held (m ∷ ls)) ∙ sym (append_assoc first (folded_lines true (m ∷ ls)) (held_line (m ∷ ls)))

held_of_last : (ls : List (List ℕ)) (x : List ℕ) → held_line (ls ++ x ∷ []) ≡ (if is_moment x then ended x else [])
held_of_last [] x = refl
held_of_last (l ∷ []) x = refl
held_of_last (l ∷ m ∷ ls) x = held_of_last (m ∷ ls) x

-- a line after others
line_printed : (t : Bool) (ls : List (List ℕ)) (x : List ℕ) → is_moment x ≡ t
    → folded_lines true (ls ++ x ∷ []) ≡ folded_lines true ls ++ (if t then [] else held_line ls ++ ended x)
line_printed true ls x e =
    line_added true ls x ∙ rw e refl
line_printed false ls x e =
    line_added true ls x ∙ (rw e (ap (λ (y : List ℕ). y ++ ended x) (with_held ls)) ∙ append_assoc (folded_lines true ls) (held_line ls) (ended x))

-- BYTE BY BYTE

pub begun_fold : IsFolded [] [] (record { held = []; begun = [] })
begun_fold = record { printed_is = refl; held_is = refl; begun_is = refl }

pub line_ends : (text printed out out' : List ℕ) (f f' : Fold) → IsFolded text (printed ++ out) f
    → f'.held ≡ (if is_moment f.begun then ended f.begun else []) → f'.begun ≡ [] → out' ≡ out ++ (if is_moment f.begun then [] else f.held ++ ended f.begun)
    → IsFolded (text ++ 10 ∷ []) (printed ++ out') f'
line_ends text printed out out' f f' h held begun outs =
    let lines = whole_lines text in
    let x = last_from [] text in
    let all : whole_lines (text ++ 10 ∷ []) ≡ lines ++ x ∷ [] = whole_join [] text (10 ∷ []) in
    record {
      printed_is = ap (λ (y : List ℕ). printed ++ y) outs
          ∙ (sym (append_assoc printed out (if is_moment f.begun then [] else f.held ++ ended f.begun))
          ∙ (ap (λ (y : List ℕ). y ++ (if is_moment f.begun then [] else f.held ++ ended f.begun)) h.printed_is
          ∙ (ap (λ (y : List ℕ). folded_lines true lines ++ (if is_moment y then [] else f.held ++ ended y)) h.begun_is
          ∙ (ap (λ (y : List ℕ). folded_lines true lines ++ (if is_moment x then [] else y ++ ended x)) h.held_is
          ∙ (sym (line_printed (is_moment x) lines x refl) ∙ ap (folded_lines true) (sym all))))));
      held_is = held ∙ (ap (λ (y : List ℕ). if is_moment y then ended y else []) h.begun_is ∙ (sym (held_of_last lines x) ∙ ap held_line (sym all)));
      begun_is = begun ∙ sym (last_join [] text (10 ∷ []));
    }

pub byte_comes : (text printed : List ℕ) (b : ℕ) (f f' : Fold) → eqb b 10 ≡ false → IsFolded text printed f
    → f'.held ≡ f.held → f'.begun ≡ f.begun ++ b ∷ [] → IsFolded (text ++ b ∷ []) printed f'
byte_comes text printed b f f' e h held begun =
    let all : whole_lines (text ++ b ∷ []) ≡ whole_lines text = whole_join [] text (b ∷ []) ∙ (rw e (append-nil (whole_lines text))) in
    let more : last_from [] (text ++ b ∷ []) ≡ last_from [] text ++ b ∷ [] = last_join [] text (b ∷ []) ∙ rw e refl in
    record {
      printed_is = h.printed_is ∙ ap (folded_lines true) (sym all);
      held_is = held ∙ (h.held_is ∙ ap held_line (sym all));
      begun_is = begun ∙ (ap (λ (y : List ℕ). y ++ b ∷ []) h.begun_is ∙ sym more);
    }

-- bytes one after the other

pub same_folded : (text text' printed printed' : List ℕ) (f : Fold) → text ≡ text' → printed ≡ printed' → IsFolded text printed f → IsFolded text' printed' f
same_folded text text' printed printed' f e o h = subst (λ (y : List ℕ). IsFolded text' y f) o (subst (λ (y : List ℕ). IsFolded y printed f) e h)

pub byte_more : (before xs : List ℕ) (i x : ℕ) → i < length xs → x ≡ get_or xs i x → (before ++ take i xs) ++ x ∷ [] ≡ before ++ take (i + 1) xs
byte_more before xs i x lt is =
    append_assoc before (take i xs) (x ∷ [])
    ∙ ap (λ (ys : List ℕ). before ++ ys) (sym (ap (λ (n : ℕ). take n xs) (add-one i) ∙ (take-suc xs i x lt ∙ ap (λ (y : ℕ). take i xs ++ y ∷ []) (sym is))))

-- THE END

pub all_printed : (text printed out : List ℕ) (f : Fold) → IsFolded text printed f → out ≡ f.held ++ f.begun → printed ++ out ≡ folded_text text
all_printed text printed out f h outs =
    let lines = whole_lines text in
    ap (λ (y : List ℕ). printed ++ y) outs
    ∙ (ap (λ (y : List ℕ). y ++ (f.held ++ f.begun)) h.printed_is
    ∙ (ap (λ (y : List ℕ). folded_lines true lines ++ (y ++ f.begun)) h.held_is
    ∙ (ap (λ (y : List ℕ). folded_lines true lines ++ (held_line lines ++ y)) h.begun_is
    ∙ (sym (append_assoc (folded_lines true lines) (held_line lines) (last_from [] text)) ∙ ap (λ (y : List ℕ). y ++ last_from [] text) (sym (with_held lines))))))
