-- What is printed for a controller's bytes.
use Rattle.std.proofs.Common.{◌≡◌, ℕ, false, List, [], ◌++◌, Some, refl, ◌∙◌, ap}
use Rattle.std.{specs.List.flat_map, proofs.lemmas.List.append-nil}
use Rattle.of_session.specs.{Session.is_disconnected, Stream.Splits}
use Rattle.of_switch.specs.{State.State, Runs.Report, Runs.Gives, Runs.chunk_in, declared.event.Event.TheVariants.Chunk}
use Rattle.of_replay.specs.RowTexts.{row_happened}
use Rattle.of_explain.specs.Explained.{echoed, effect_notes, explained, report_notes, row_notes}
use Rattle.of_explain.{specs.Requests.request_notes, proofs.RequestLemmas.messages_are}

pub each_told : (n : ℕ) (s : State) (line chunk : List ℕ) (messages : List (List ℕ)) (rest : List ℕ) → is_disconnected s.connection.phase ≡ false → Splits (s.connection.pending ++ chunk) messages rest
    → explained n s line (Some (Chunk chunk)) ≡ echoed n line ++ (flat_map request_notes messages ++ effect_notes (chunk_in chunk s).effects)
each_told n s line chunk messages rest there split =
    let effects = (chunk_in chunk s).effects in
    let report : (row_happened s (Some (Chunk chunk))).report ≡ Gives effects = rw there refl in
    ap (λ (r : Report). echoed n line ++ report_notes (row_notes s (Some (Chunk chunk))) (Some (Chunk chunk)) r) report
    ∙ (ap (λ (x : List (List ℕ)). echoed n line ++ (flat_map request_notes x ++ (effect_notes effects ++ []))) (messages_are (s.connection.pending ++ chunk) messages rest split)
    ∙ ap (λ (x : List ℕ). echoed n line ++ (flat_map request_notes messages ++ x)) (append-nil (effect_notes effects)))
