-- WHY A WORD IS REFUSED, in words.
use Rattle.std.specs.Prelude.{ℕ, List, codes}
use Rattle.of_ovs_words.specs.declared.why.Why.{Why}
use Rattle.of_ovs_words.specs.declared.why.Why.TheVariants as whys

unfoldable pub why_words : Why → List ℕ
why_words whys.Unknown = codes "not supported by this switch, or not an ovs-ofctl keyword"
why_words whys.Value = codes "invalid value"
why_words whys.PortName = codes "ports must be numbers: dump with --no-names"
why_words whys.Protocol = codes "needs tcp or udp before it"
why_words whys.Missing = codes "missing"
why_words whys.Again = codes "a group with this number already exists"
why_words whys.Alone = codes "drop must be the only action and instruction"
why_words whys.Order = codes "the order is: actions, clear_actions, write_actions, write_metadata, goto_table"
why_words whys.Twice = codes "an instruction can be used only once"
why_words whys.Truncates = codes "OpenFlow 1.3 cannot truncate packets: write output:PORT"
why_words whys.Command = codes "only flows to add can be imported: remove this line and the lines that it changes"
why_words whys.Table = codes "this switch has tables 0 to 15; --renumber gives them numbers"
why_words whys.Backward = codes "resubmit must go to a later table, without a port"
why_words whys.NeedsTag = codes "needs a VLAN tag"
why_words whys.NeedsIp = codes "needs ip or ipv6"
why_words whys.NeedsIpv4 = codes "needs ip"
why_words whys.NeedsIpv6 = codes "needs ipv6"
why_words whys.NeedsArp = codes "needs arp"
why_words whys.NeedsTcp = codes "needs tcp or tcp6"
why_words whys.NeedsUdp = codes "needs udp or udp6"
why_words whys.NeedsIcmp = codes "needs icmp"
why_words whys.NeedsIcmp6 = codes "needs icmp6"
