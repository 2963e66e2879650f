-- Texts cut and filled by hand.
use Rattle.std.proofs.Common.{◌≡◌, ℕ, true, false, List, [], ◌∷◌, length, drop, Some, None, refl, arith}
use Rattle.std.specs.Prelude.{codes}
use Rattle.std.proofs.lemmas.List.Elements.{All-from_recursion}
use Rattle.fk_base.specs.declared.pair.Proto.TheVariants.{Udp, Tcp}
use Rattle.fk_base.specs.declared.grant.Grant.{Grant}
use Rattle.fk_subst.specs.declared.variable.Var.TheVariants as var
use Rattle.fk_subst.specs.declared.piece.Piece.TheVariants.{Plain, Name}
use Rattle.fk_subst.specs.Template.{is_name_letter, is_plain, words_in, IsRun, AreWordPieces}
use Rattle.fk_subst.specs.CommandFault.{begins_unknown}
use Rattle.fk_subst.specs.Fill.{filled}

two_words : words_in (codes "/bin/o  $IP") ≡ codes "/bin/o" ∷ codes "$IP" ∷ []
two_words = refl

unknown_at_seven : begins_unknown (drop 7 (codes "/bin/o $DST")) ≡ true
unknown_at_seven = refl

longer_name : begins_unknown (codes "$IPX") ≡ true
longer_name = refl

known_name : begins_unknown (codes "$IP/$PORT") ≡ false
known_name = refl

three_pieces : AreWordPieces (Name var.Proto ∷ Plain (codes "/") ∷ Name var.Port ∷ []) (codes "$PROTO/$PORT")
three_pieces = (
  codes "/$PORT",
  (codes "PROTO", codes "PROTO/$PORT", refl, proto_run, refl),
  (codes "$PORT", ((λ e. cc), slash_run), ([], (codes "PORT", codes "PORT", refl, port_run, refl), refl)),
)
  where
    proto_run : IsRun is_name_letter (codes "PROTO/$PORT") (codes "PROTO") (codes "/$PORT")
    proto_run = record { joined = refl; passes = All-from_recursion (λ b. is_name_letter b ≡ true) (codes "PROTO") (refl, (refl, (refl, (refl, (refl, tt))))); ends = λ byte more e. (let is : byte ≡ 47 = cc in rw is refl) }

    slash_run : IsRun is_plain (codes "/$PORT") (codes "/") (codes "$PORT")
    slash_run = record { joined = refl; passes = All-from_recursion (λ b. is_plain b ≡ true) (codes "/") (refl, tt); ends = λ byte more e. (let is : byte ≡ 36 = cc in rw is refl) }

    port_run : IsRun is_name_letter (codes "PORT") (codes "PORT") []
    port_run = record { joined = refl; passes = All-from_recursion (λ b. is_name_letter b ≡ true) (codes "PORT") (refl, (refl, (refl, (refl, tt)))); ends = λ byte more e. cc }
