pub mod TableLemmas
pub mod CountLemmas
pub mod ChainLemmas
pub mod TallyLemmas
pub mod JointLemmas
pub mod FollowLemmas
pub mod OffLemmas
pub mod AnswerLemmas
