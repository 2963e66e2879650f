use Rattle.std.proofs.Common.{◌≡◌, length, rules}
use Rattle.fk_aes.proofs.ByteLists.{list-elements}
use Rattle.fk_aes.proofs.StateWords.{inv_shifted}
use Rattle.fk_aes.proofs.state.inv_sub_shift.Goals as goal

pub returns : goal.returns
returns c =
    let four : length c.args.columns ≡ 4 = search rules in
    rw (list-elements c.args.columns 4 four)
    (inv_shifted _ _ _ _ _ _ _ _ c.inv_sub_column.ensures c.inv_sub_column-2.ensures c.inv_sub_column-3.ensures c.inv_sub_column-4.ensures)
