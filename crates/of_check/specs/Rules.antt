-- Fields that are in one header, so that a frame has all of them or none (OpenFlow 1.3.5, 7.2.3.7).
use Rattle.std.specs.Prelude.{List, [], ◌∷◌}
use Rattle.of_layers.specs.declared.field.Field.TheVariants.{IpDscp, IpEcn, IpProto, Ipv4Src, Ipv4Dst, TcpSrc, TcpDst, UdpSrc, UdpDst, Icmpv4Type, Icmpv4Code, ArpOp, ArpSpa, ArpTpa, ArpSha, ArpTha, Ipv6Src, Ipv6Dst, Ipv6Flabel, Icmpv6Type, Icmpv6Code}
use Rattle.of_layers.specs.declared.field.Field.{Field}

abbrev pub of_arp : List Field
of_arp = ArpOp ∷ ArpSpa ∷ ArpTpa ∷ ArpSha ∷ ArpTha ∷ []

abbrev pub of_ipv4 : List Field
of_ipv4 = IpDscp ∷ IpEcn ∷ IpProto ∷ Ipv4Src ∷ Ipv4Dst ∷ []

-- the protocol may be named by a later header
abbrev pub of_ipv6 : List Field
of_ipv6 = IpDscp ∷ IpEcn ∷ Ipv6Src ∷ Ipv6Dst ∷ Ipv6Flabel ∷ []

-- a frame that has the field has these too
abbrev pub implied_fields : Field → List Field
implied_fields ArpOp = of_arp
implied_fields ArpSpa = of_arp
implied_fields ArpTpa = of_arp
implied_fields ArpSha = of_arp
implied_fields ArpTha = of_arp
implied_fields IpDscp = IpEcn ∷ []
implied_fields IpEcn = IpDscp ∷ []
implied_fields Ipv4Src = of_ipv4
implied_fields Ipv4Dst = of_ipv4
implied_fields Ipv6Src = of_ipv6
implied_fields Ipv6Dst = of_ipv6
implied_fields Ipv6Flabel = of_ipv6
implied_fields TcpSrc = TcpDst ∷ []
implied_fields TcpDst = TcpSrc ∷ []
implied_fields UdpSrc = UdpDst ∷ []
implied_fields UdpDst = UdpSrc ∷ []
implied_fields Icmpv4Type = Icmpv4Code ∷ []
implied_fields Icmpv4Code = Icmpv4Type ∷ []
implied_fields Icmpv6Type = Icmpv6Code ∷ []
implied_fields Icmpv6Code = Icmpv6Type ∷ []
implied_fields other = []
