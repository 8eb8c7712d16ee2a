-- `give` meets its contract: each of the four fits, and is copied.
use Rattle.model.proofs.Given.{values-fit, marks-fit, order-fits, words-fit}
use Rattle.model.proofs.give.Goals as goal

pub copy_values-requires : goal.copy_values-requires
copy_values-requires c = values-fit c.requires c.requests_in-n.ensures

pub copy_marks-requires : goal.copy_marks-requires
copy_marks-requires c =
    marks-fit c.requires c.requests_in-n.ensures

pub copy_order-requires : goal.copy_order-requires
copy_order-requires c = order-fits c.requires

pub copy_words-requires : goal.copy_words-requires
copy_words-requires c = words-fit c.requires
