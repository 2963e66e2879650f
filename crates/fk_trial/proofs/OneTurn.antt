-- A line says one turn at most.
use Rattle.std.proofs.Common.{◌≡◌, ℕ, ◌≤◌, List, ◌∷◌, ◌++◌, refl, sym, ap, ◌∙◌, arith}
use Rattle.std.specs.Fmt.{decimal}
use Rattle.fk_base.specs.declared.address.Ip4.{Ip4}
use Rattle.fk_base.specs.declared.moment.TheConstants.{GREATEST_MOMENT}
use Rattle.fk_base.specs.Address.{ip_text}
use Rattle.fk_base.specs.Decimal.{decimal_value}
use Rattle.fk_base.proofs.Numerals.{decimal_value-decimal}
use Rattle.fk_base.proofs.Addresses.{ip_text-injective}
use Rattle.fk_trace.specs.Decision.{Input, FeedTurn}
use Rattle.fk_trace.specs.Decision.Input.{Quiet, Datagram}
use Rattle.fk_trial.specs.Lines.{IsLineAt, IsTurnLine}
use Rattle.fk_trial.proofs.TurnLines.{IsCut, cut_once, uncut, no_space_in_decimal, no_space_in_ip_text}

one-number : (m n : ℕ) → m ≤ GREATEST_MOMENT → n ≤ GREATEST_MOMENT → decimal m ≡ decimal n → m ≡ n
one-number m n small_m small_n same = sym (decimal_value-decimal m (omega arith)) ∙ ap decimal_value same ∙ decimal_value-decimal n (omega arith)

cut-decimal : (line rest : List ℕ) (m : ℕ) → m ≤ GREATEST_MOMENT → line ≡ decimal m ++ 32 ∷ rest → IsCut line (decimal m) rest
cut-decimal line rest m small is = record { whole = is; no_space = no_space_in_decimal m (omega arith) }

one-input : (line : List ℕ) (m n : ℕ) (a b : Input) → m ≤ GREATEST_MOMENT → n ≤ GREATEST_MOMENT → IsLineAt line m a → IsLineAt line n b → (m ≡ n) × (a ≡ b)
one-input line m n Quiet Quiet small_m small_n a b = (one-number m n small_m small_n (sym a ∙ b), refl)
one-input line m n Quiet (Datagram source datagram) small_m small_n a b =
    absurd (uncut (decimal m) (decimal n) (ip_text source ++ 32 ∷ datagram) (no_space_in_decimal m (omega arith)) (sym a ∙ b.2))
one-input line m n (Datagram source datagram) Quiet small_m small_n a b =
    absurd (uncut (decimal n) (decimal m) (ip_text source ++ 32 ∷ datagram) (no_space_in_decimal n (omega arith)) (sym b ∙ a.2))
one-input line m n (Datagram source datagram) (Datagram other others) small_m small_n a b =
    let cut = cut_once line (decimal m) (ip_text source ++ 32 ∷ datagram) (decimal n) (ip_text other ++ 32 ∷ others)
    (cut-decimal line (ip_text source ++ 32 ∷ datagram) m small_m a.2) (cut-decimal line (ip_text other ++ 32 ∷ others) n small_n b.2) in
    let again = cut_once (ip_text other ++ 32 ∷ others) (ip_text source) datagram (ip_text other) others
    (record { whole = sym cut.1; no_space = no_space_in_ip_text source }) (record { whole = refl; no_space = no_space_in_ip_text other }) in
    let from : source ≡ other = ip_text-injective source other a.0 b.0 again.0 in
    (one-number m n small_m small_n cut.0, ap (λ (ip : Ip4). Datagram ip datagram) from ∙ ap (Datagram other) again.1)

pub one-turn : (line : List ℕ) (a b : FeedTurn) → IsTurnLine line a → IsTurnLine line b → a ≡ b
one-turn line a b is other =
    let same = one-input line a.moment b.moment a.input b.input is.0 other.0 is.1 other.1 in
    ap (λ (m : ℕ). record { moment = m; input = a.input }) same.0 ∙ ap (λ (input : Input). record { moment = b.moment; input = input }) same.1
