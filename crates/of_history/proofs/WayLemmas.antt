-- The words of a way.
use Rattle.std.proofs.Common.{◌≡◌, ◌++◌, ℕ, List, [], ◌∷◌, refl, sym, ◌∙◌, ap, map}
use Rattle.std.specs.List.{flat_map}
use Rattle.of_machine.specs.{declared.data.Item.Item, declared.data.Step.Step}
use Rattle.of_datapath.specs.{Datapath.Forwarding, DryRun.received_steps}
use Rattle.of_text.specs.Lines.{ended}
use Rattle.of_json.specs.LeavingWords.{side_words}
use Rattle.of_history.specs.{declared.way.FoundStep.FoundStep, Fates.fate_line, Fates.fate_lines, Fates.received_fate, Fates.received_items, Ways.found_line, Ways.found_step, Ways.way_words}

found_lines : (f : Forwarding) (steps : List Step) → flat_map found_line (map (found_step f) steps) ≡ fate_lines f steps
found_lines f [] = refl
found_lines f (s ∷ steps) = ap (λ l. ended (fate_line f s) ++ l) (found_lines f steps)

-- lines and what is emitted, appended to nothing
pub said_by_way : (f : Forwarding) (steps : List Step) (found : List FoundStep) (items : List Item) (none lines text : List ℕ) → none ≡ [] → found ≡ map (found_step f) steps →
    lines ≡ none ++ fate_lines f steps → text ≡ lines ++ side_words [] items → text ≡ way_words found items
unfolding way_words
said_by_way f steps found items none lines text empty is said all =
    let front : lines ≡ flat_map found_line found = said ∙ (ap (λ (l : List ℕ). l ++ fate_lines f steps) empty ∙ (sym (found_lines f steps) ∙ ap (λ (l : List FoundStep). flat_map found_line l) (sym is))) in
    all ∙ ap (λ (l : List ℕ). l ++ side_words [] items) front

-- the words of the way of a frame that is received are its fate
pub way_of_fate : (f : Forwarding) (port : ℕ) (frame : List ℕ) (steps : List Step) (items : List Item) → steps ≡ received_steps port frame f → items ≡ received_items port frame f →
    way_words (map (found_step f) steps) items ≡ received_fate port frame f
unfolding way_words received_fate
way_of_fate f port frame steps items is emits =
    ap (λ (l : List ℕ). l ++ side_words [] items) (found_lines f steps)
    ∙ (ap (λ (l : List Step). fate_lines f l ++ side_words [] items) is ∙ ap (λ (l : List Item). fate_lines f (received_steps port frame f) ++ side_words [] l) emits)
