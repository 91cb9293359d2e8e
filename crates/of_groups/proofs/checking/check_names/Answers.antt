use Rattle.std.proofs.Common.{◌∙◌, sym, ap}
use Rattle.of_groups.specs.{Buckets.any_sends, Groups.any_watches, Rounds.absent_with}
use Rattle.of_groups.proofs.Soundness.{naming_sent, naming_watched, naming_long, naming_none}
use Rattle.of_groups.proofs.checking.check_names.Goals as goal

pub returns-then-any_sends : goal.returns-then-any_sends
returns-then-any_sends c =
    let sent = sym (ap (any_sends (absent_with c.args.new.now.id c.args.groups.now)) c.as_slice-buckets.ensures.buckets) ∙ (sym c.any_sends.ensures ∙ c.if-any_sends.true) in
    let e = sym (naming_sent c.args.new.now c.args.groups.now sent) in
    record { fault = e; exact = e }

pub returns-then-any_watches : goal.returns-then-any_watches
returns-then-any_watches c =
    let sent = sym (ap (any_sends (absent_with c.args.new.now.id c.args.groups.now)) c.as_slice-buckets.ensures.buckets) ∙ (sym c.any_sends.ensures ∙ c.if-any_sends.false) in
    let watched = sym (ap (any_watches (absent_with c.args.new.now.id c.args.groups.now) c.args.new.now.kind) c.as_slice-buckets.ensures.buckets) ∙ (sym c.any_watches.ensures ∙ c.if-any_watches.true) in
    let e = sym (naming_watched c.args.new.now c.args.groups.now sent watched) in
    record { fault = e; exact = e }

pub returns-then-makes_long : goal.returns-then-makes_long
returns-then-makes_long c =
    let sent = sym (ap (any_sends (absent_with c.args.new.now.id c.args.groups.now)) c.as_slice-buckets.ensures.buckets) ∙ (sym c.any_sends.ensures ∙ c.if-any_sends.false) in
    let watched = sym (ap (any_watches (absent_with c.args.new.now.id c.args.groups.now) c.args.new.now.kind) c.as_slice-buckets.ensures.buckets) ∙ (sym c.any_watches.ensures ∙ c.if-any_watches.false) in
    let e = sym (naming_long c.args.new.now c.args.groups.now sent watched (sym c.makes_long.ensures ∙ c.if-makes_long.true)) in
    record { fault = e; exact = e }

pub returns : goal.returns
returns c =
    let sent = sym (ap (any_sends (absent_with c.args.new.now.id c.args.groups.now)) c.as_slice-buckets.ensures.buckets) ∙ (sym c.any_sends.ensures ∙ c.if-any_sends.false) in
    let watched = sym (ap (any_watches (absent_with c.args.new.now.id c.args.groups.now) c.args.new.now.kind) c.as_slice-buckets.ensures.buckets) ∙ (sym c.any_watches.ensures ∙ c.if-any_watches.false) in
    let e = sym (naming_none c.args.new.now c.args.groups.now sent watched (sym c.makes_long.ensures ∙ c.if-makes_long.false)) in
    record { fault = e; exact = e }
