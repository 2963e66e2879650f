-- Texts written by hand by the rules for addresses and pairs.
use Rattle.std.proofs.Common.{◌≡◌, refl, lit≤}
use Rattle.std.specs.Prelude.{codes}
use Rattle.std.specs.Fmt.{digits}
use Rattle.fk_base.specs.declared.pair.Proto.TheVariants.{Udp}
use Rattle.fk_base.specs.PairText.{pair_text}
use Rattle.fk_base.specs.Address.{ip_text}

low_address : ip_text (record { 0 = 167772167 }) ≡ codes "10.0.0.7"
unfolding digits
low_address = refl

greatest_address : ip_text (record { 0 = 4294967295 }) ≡ codes "255.255.255.255"
unfolding digits
greatest_address = refl

pair_with_port : pair_text (record { proto = Udp; port = 53; has_port = lit≤ tt }) ≡ codes "udp/53"
unfolding digits
pair_with_port = refl
