use Rattle.std.proofs.Common.{◌≡◌, ◌≤◌, ◌-◌, ◌++◌, ℕ, List, Result, Ok, Err, ◌∙◌, ap, take, length, vec_len, rules}
use Rattle.std.specs.{Prelude.OnOk, Prelude.if◌then◌else◌, Result.is_ok}
use Rattle.of_replay.proofs.Cutting.{kept_part}
use Rattle.of_replay.proofs.open_line.OpenLine.extend.Goals as goal

extended : {E : Type 0} (r : Result (Unit {0}) E) (old part front new self : List ℕ) (len : ℕ) → new ≡ (if is_ok r then old ++ front else old) → front ≡ take (1048577 - len) part → len ≡ length old → length old ≤ 1048577 → old ≡ self
    → OnOk r (new ≡ take 1048577 (self ++ part))
extended (Ok u) old part front new self len e f l le s =
    e ∙ (ap (λ (x : List ℕ). old ++ x) (f ∙ ap (λ (k : ℕ). take (1048577 - k) part) l) ∙ (kept_part 1048577 old part le ∙ ap (λ (x : List ℕ). take 1048577 (x ++ part)) s))
extended (Err x) old part front new self len e f l le s = tt

pub returns : goal.returns
returns c =
    let same : vec_len c.self.inside.bytes ≡ length c.self.inside.bytes.items = search rules in
    extended c.extend_from_slice.result c.self.inside.bytes.items c.args.part.now c.front_part.result.now c.extend_from_slice.new.self.items c.args.self.now c.len-room.result
    c.extend_from_slice.ensures.items c.front_part.ensures.front (c.len-room.ensures ∙ same) c.self.inside.short c.self.view_is
