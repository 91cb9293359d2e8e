use Rattle.std.proofs.Common.{refl}
use Rattle.of_symbolic.specs.Branches.{flows_listed}
use Rattle.of_symbolic_run.{specs.Cases.found_flow, proofs.CaseLemmas.case_is, proofs.FrameLemmas.descriptions_within}
use Rattle.of_symbolic_run.proofs.joint.joint_case_of.Goals as goal

pub invariant_of-frames : goal.invariant_of-frames
invariant_of-frames c = record {
  conditions = c.requires.own.0;
  told = descriptions_within c.args.frames.now.inner c.args.frames.now.part c.args.branch.part c.requires.own.1 c.args.frames.now.told;
  range = c.args.frames.now.range;
}

pub returns-clause-first : goal.returns-clause-first
returns-clause-first c = case_is c.args.table (flows_listed c.args.listed.now) c.args.frames.now c.args.first.now c.args.branch _ (found_flow c.entry_named.result) c.requires.own.1 refl refl refl refl c.entry_named.ensures c.in_ok-first.ensures

pub returns-clause-second : goal.returns-clause-second
returns-clause-second c = case_is c.args.table (flows_listed c.args.listed.now) c.args.frames.now c.args.second.now c.args.branch _ (found_flow c.entry_named-2.result) c.requires.own.1 refl refl refl refl c.entry_named-2.ensures c.in_ok-second.ensures
