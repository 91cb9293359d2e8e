use Rattle.std.proofs.Common.{◌≡◌, ◌++◌, ◌∷◌, ◌+◌, ◌∙◌, List, [], ap, append_assoc, drop, map, sym}
use Rattle.std.proofs.{lemmas.List.drop_more, lemmas.List.map-append, lemmas.List.Elements.All-push}
use Rattle.of_json.specs.declared.hits.Hit.{Hit}
use Rattle.of_diff_report.specs.{Changed.IsMarked, Changed.hit_of, declared.hits.MarkedHit.MarkedHit}
use Rattle.of_diff_report.proofs.hits.marked.Goals as goal

pub loop-hit-preserved : goal.loop-hit-preserved
loop-hit-preserved g c =
    let hits = c.args.hits.now in
    let had = c.loop-hit.all.items in
    let one = c.mark.result in
    let rest = drop (c.loop-hit.hit-index + 1) hits in
    let items : c.push.new.self.items ≡ had ++ one ∷ [] = c.in_ok-push.ensures.items in (
      ap (λ (l : List MarkedHit). map hit_of l ++ rest) items
          ∙ (ap (λ (l : List Hit). l ++ rest) (map-append hit_of had (one ∷ []))
          ∙ (append_assoc (map hit_of had) (one.hit ∷ []) rest
          ∙ (ap (λ (h : Hit). map hit_of had ++ (h ∷ rest)) c.mark.ensures.hit
          ∙ (ap (λ (l : List Hit). map hit_of had ++ l) (sym (drop_more hits c.loop-hit.hit-index _ c.loop-hit-test.true)) ∙ c.loop-hit.invariant.0)))),
      rw items (All-push (IsMarked c.args.own.now.core.forwarding c.args.other.now.core.forwarding) had one c.loop-hit.invariant.1 c.mark.ensures.marked),
    )
