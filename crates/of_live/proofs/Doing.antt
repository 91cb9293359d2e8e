-- Events, one after the other.
use Rattle.std.proofs.Common.{◌≡◌, ◌<◌, ◌+◌, ◌∙◌, ℕ, length, take, get_or, add-one, List, [], ◌∷◌, ◌++◌, Bool, true, false, Some, ap, refl, sym, append_assoc, Option}
use Rattle.std.{specs.Prelude.map, specs.List.flat_map, proofs.lemmas.List.append-nil, proofs.lemmas.List.map-append, proofs.lemmas.List.Concat.flat_map-append, proofs.Math.Seq.take-suc}
use Rattle.of_datapath.specs.declared.effect.Effect.{Effect}
use Rattle.of_switch.specs.Runs.{Report, Gives, IsRefused, Run, run, happened, effects_in, report_of, reports_of}
use Rattle.of_switch.specs.{declared.event.Event.Event, declared.event.Report.Report as Reported, State.State}
use Rattle.of_serve.specs.Turns.{answer_in, report_effects}
use Rattle.of_replay.specs.WrittenRows.{row_text}
use Rattle.of_live.specs.{declared.peers.Peer.Peer, Acts.Act, Acts.Records, Turns.sent_in, Working.Does, Working.LiveWork, Working.logged_text}
use Rattle.of_live.proofs.Passing.{records_as, records_more}

-- the run of events, and then of others
pub run_then : (es fs : List Event) (s : State) → run (es ++ fs) s
    ≡ record { reports = (run es s).reports ++ (run fs (run es s).state).reports; state = (run fs (run es s).state).state }
run_then [] fs s = refl
run_then (e ∷ es) fs s =
    ap (λ (r : Run). record { reports = (happened e s).report ∷ r.reports; state = r.state }) (run_then es fs (happened e s).state)

pub text_then : (keeps : Bool) (es fs : List Event) → logged_text keeps (es ++ fs) ≡ logged_text keeps es ++ logged_text keeps fs
text_then true es fs =
    ap (flat_map (λ row. row_text row ++ 10 ∷ [])) (map-append Some es fs) ∙ flat_map-append (λ row. row_text row ++ 10 ∷ []) (map Some es) (map Some fs)
text_then false es fs = refl

pub does_none : (keeps : Bool) (s : State) (w : LiveWork) → Does keeps [] s s w w
does_none true s w = record { state_is = refl; reports_are = sym (append-nil w.reports); text_is = sym (append-nil w.text) }
does_none false s w = record { state_is = refl; reports_are = sym (append-nil w.reports); text_is = sym (append-nil w.text) }

pub does_more : (keeps : Bool) (es fs : List Event) (s t u : State) (w x y : LiveWork)
    → Does keeps es s t w x → Does keeps fs t u x y → Does keeps (es ++ fs) s u w y
does_more keeps es fs s t u w x y d e =
    let all = run_then es fs s in
    let then_run : run fs t ≡ run fs (run es s).state = ap (run fs) d.state_is in
    record {
      state_is = e.state_is ∙ (ap (λ (r : Run). r.state) then_run ∙ ap (λ (r : Run). r.state) (sym all));
      reports_are = e.reports_are
          ∙ (ap (λ rs. rs ++ (run fs t).reports) d.reports_are
          ∙ (append_assoc w.reports (run es s).reports (run fs t).reports
          ∙ ap (λ rs. w.reports ++ rs) (ap (λ (r : Run). (run es s).reports ++ r.reports) then_run ∙ ap (λ (r : Run). r.reports) (sym all))));
      text_is = e.text_is
          ∙ (ap (λ bs. bs ++ logged_text keeps fs) d.text_is
          ∙ (append_assoc w.text (logged_text keeps es) (logged_text keeps fs) ∙ ap (λ bs. w.text ++ bs) (sym (text_then keeps es fs))));
    }

effects_then : (reports : List Report) (r : Report) → effects_in (reports ++ r ∷ []) ≡ effects_in reports ++ report_effects r
effects_then [] (Gives effects) = append-nil effects
effects_then [] (IsRefused refusal) = refl
effects_then (Gives effects ∷ reports) r = ap (λ es. effects ++ es) (effects_then reports r) ∙ sym (append_assoc effects (effects_in reports) (report_effects r))
effects_then (IsRefused refusal ∷ reports) r = effects_then reports r

-- one more report
pub given_more : (reports : List Reported) (i : ℕ) (report : Reported) → i < length reports → report ≡ get_or reports i report
    → effects_in (reports_of (take (i + 1) reports)) ≡ effects_in (reports_of (take i reports)) ++ report_effects (report_of report)
given_more reports i report lt is =
    ap (λ n. effects_in (reports_of (take n reports))) (add-one i)
    ∙ (ap (λ rs. effects_in (reports_of rs)) (take-suc reports i report lt ∙ ap (λ r. take i reports ++ r ∷ []) (sym is))
    ∙ (ap effects_in (map-append report_of (take i reports) (report ∷ [])) ∙ effects_then (reports_of (take i reports)) (report_of report)))

pub pushed : (first old new : List ℕ) (reports : List Reported) (i : ℕ) (report : Reported) (effects : List Effect) → i < length reports → report ≡ get_or reports i report
    → old ≡ first ++ flat_map answer_in (effects_in (reports_of (take i reports))) → effects ≡ report_effects (report_of report) → new ≡ old ++ flat_map answer_in effects
    → new ≡ first ++ flat_map answer_in (effects_in (reports_of (take (i + 1) reports)))
pushed first old new reports i report effects lt is so given e =
    e ∙ (ap (λ bs. bs ++ flat_map answer_in effects) so
    ∙ (append_assoc first _ _
    ∙ ap (λ bs. first ++ bs) (ap (λ es. flat_map answer_in (effects_in (reports_of (take i reports))) ++ flat_map answer_in es) given
    ∙ (sym (flat_map-append answer_in (effects_in (reports_of (take i reports))) (report_effects (report_of report)))
    ∙ ap (flat_map answer_in) (sym (given_more reports i report lt is))))))

pub sent : (peers : List Peer) (a b c : Option (List Act)) (reports : List Reported) (i : ℕ) (report : Reported) (effects : List Effect) → i < length reports → report ≡ get_or reports i report
    → Records a (flat_map (sent_in peers) (effects_in (reports_of (take i reports)))) b → effects ≡ report_effects (report_of report) → Records b (flat_map (sent_in peers) effects) c
    → Records a (flat_map (sent_in peers) (effects_in (reports_of (take (i + 1) reports)))) c
sent peers a b c reports i report effects lt is so given r =
    records_as a c _ _ (ap (λ es. flat_map (sent_in peers) (effects_in (reports_of (take i reports))) ++ flat_map (sent_in peers) es) given
    ∙ (sym (flat_map-append (sent_in peers) (effects_in (reports_of (take i reports))) (report_effects (report_of report)))
    ∙ ap (flat_map (sent_in peers)) (sym (given_more reports i report lt is)))) (records_more a b c _ _ so r)
