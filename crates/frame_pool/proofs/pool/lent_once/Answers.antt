use Rattle.frame_pool.proofs.pool.lent_once.Goals as goal

pub returns : goal.returns
returns c = λ size s kp. record {
  alone = kp.alone;
  stands_if_lent = λ k lt. ((λ on. kp.lent k lt on), (λ t. ((kp.each t.0 t.1 t.2).claims k t.3).1));
  home = kp.free;
}
