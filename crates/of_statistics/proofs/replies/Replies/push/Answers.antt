use Rattle.std.proofs.Common.{◌≡◌, ◌≤◌, ◌<◌, ◌+◌, ℕ, List, [], ◌∷◌, ◌++◌, length, drop, ap, ◌∙◌, arith}
use Rattle.std.specs.Prelude.{replicate}
use Rattle.of_statistics.{specs.Replies.reply, specs.Replies.more, proofs.Sealing.row_fits, proofs.Sealing.row_begins}
use Rattle.of_statistics.proofs.replies.Replies.push.Goals.{then-len-row-gt-MOST+in_ok-begun+in_ok-push, else-len-row-gt-MOST}
use Rattle.of_statistics.proofs.replies.Replies.push.Goals as goal

pub returns : goal.returns
returns c =
    let at = c.self.inside in
    elim c.if-len-row-gt-MOST.branch [
      | then-len-row-gt-MOST+in_ok-begun+in_ok-push w ↦
          let over : 65535 < length at.open.items + length c.args.row.now = omega (arith, w.if-len-row-gt-MOST.true, c.len.ensures, at.open.ok.0) in
          let fresh : w.replace-full.new.dest.items ≡ replicate 16 0 = rw w.replace-full.ensures.after w.in_ok-begun.ensures in
          let full : w.push.new.self.items ≡ at.full.items ++ reply at.xid at.kind more (drop 16 at.open.items) ∷ [] =
          w.in_ok-push.ensures.items ∙ ap (λ (m : List ℕ). at.full.items ++ m ∷ []) (rw w.replace-full.ensures.value at w.sealed.ensures) in
          rw (w.self-inside-is, ← c.self.view_is) (row_begins c.extend_from_slice.result at.xid at.kind at.full.items w.push.new.self.items at.open.items w.replace-full.new.dest.items c.extend_from_slice.new.self.items c.args.row.now c.self.invariant.0 over fresh full (rw w.self-inside-is at c.extend_from_slice.ensures.items))
      | else-len-row-gt-MOST w ↦
          let fits : length at.open.items + length c.args.row.now ≤ 65535 = omega (arith, w.if-len-row-gt-MOST.false, c.len.ensures, at.open.ok.0) in
          rw (w.self-inside-is, ← c.self.view_is) (row_fits c.extend_from_slice.result at.xid at.kind at.full.items at.open.items c.extend_from_slice.new.self.items c.args.row.now c.self.invariant.0 fits (rw w.self-inside-is at c.extend_from_slice.ensures.items))
    ]
