-- `Node::append` meets its contract: by the room in the queue.
use Rattle.node.proofs.Arrivals.{append-room, append-full}
use Rattle.node.proofs.Node.append.Goals as goal

pub returns-then-self-q : goal.returns-then-self-q
returns-then-self-q c = append-room c.requires.held_node c.if-self-q.true c.push-self.ensures.0 c.push-self.ensures.1

pub returns : goal.returns
returns c = append-full c.requires.held_node c.if-self-q.false
