-- Only for contracts within this crate: how a line goes to its sink in pieces.
use Rattle.std.specs.Prelude.{◌≡◌, ℕ, List, ◌++◌, Option, Result, OnOk, OnErr}
use Rattle.std.specs.List.{flat_map}
use Rattle.fk_base.specs.Address.{ip_text}
use Rattle.fk_base.specs.PairText.{pair_text}
use Rattle.fk_base.specs.declared.memory.Failed.{Failed}
use Rattle.fk_host.specs.Count.{HasCause}
use Rattle.fk_host.specs.Stream.{Gives}
use Rattle.fk_log.specs.declared.piece.Piece.{Piece}
use Rattle.fk_log.specs.declared.piece.Piece.TheVariants as piece
use Rattle.fk_log.specs.Line.{number_text, words_text}
use Rattle.fk_log.specs.Writing.{GivesPart}

-- the text of one piece of a line
abbrev pub piece_text : Piece → List ℕ
piece_text (piece.Text bytes) = bytes.now
piece_text (piece.Number n) = number_text n
piece_text (piece.Address ip) = ip_text ip
piece_text (piece.Port pair) = pair_text pair
piece_text (piece.Command words) = words_text words.now

abbrev pub text_of_pieces : List Piece → List ℕ
text_of_pieces pieces = flat_map piece_text pieces

-- a draft and its sink as they stand
pub record Desk : Type 0 where
  -- the bytes that the sink has still to be given
  pub pending : List ℕ
  -- what the sink has taken, where it tells
  pub written : Option (List ℕ)
  -- how often the sink has failed
  pub faults : ℕ

abbrev pub desk : List ℕ → Option (List ℕ) → ℕ → Desk
desk pending written faults = record { pending = pending; written = written; faults = faults }

-- the text stands behind what was pending, and a front of both was given
pub record Moves (text : List ℕ) (old new : Desk) : Type 0 where
  pub moved : List ℕ
  pub kept : old.pending ++ text ≡ moved ++ new.pending
  pub given : Gives moved old.written new.written

-- what an answer says of a text that was put behind what was pending
pub record Puts {T : Type 0} (text : List ℕ) (result : Result T Failed) (old new : Desk) : Type 0 where
  pub ok : OnOk result (Moves text old new)
  pub err : OnErr result (GivesPart (old.pending ++ text) old.written new.written)
  pub cause : HasCause old.faults new.faults result
