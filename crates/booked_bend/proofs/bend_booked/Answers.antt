-- A bend of what is lent is one of the state that the turn selects.
use Rattle.std.proofs.Common.{◌∙◌, ap}
use Rattle.model.specs.Book.{columns}
use Rattle.model.specs.State.{State}
use Rattle.booked_bend.specs.BookedBend.{bend_on, bend-on}
use Rattle.booked_bend.proofs.bend_booked.Goals as goal

pub returns : goal.returns
returns c = c.bend_state.ensures ∙ ap (λ (x : State). bend_on c.args.setup x (columns c.args.book.now) c.args.tension) c.state_at-state.ensures ∙ bend-on c.args.setup _ _ _
