use Rattle.header_text.proofs.Fronts.{method_made}
use Rattle.header_text.proofs.arguments.method_arguments.Goals as goal

pub returns : goal.returns
returns c = λ name hidden.
    method_made _ name hidden _ _ _ _ _ c.front_len-front.ensures.many
    c.front_len-front.ensures.within _ _ _ _ _ _ c.new-arguments.ensures
    c.in_ok-push_written.ensures c.in_ok-push_context.ensures c.in_ok-push_count.ensures
    c.in_ok-push_written-2.ensures c.in_ok-push_given.ensures
