-- SPDX-License-Identifier: MIT OR Apache-2.0
pub mod Orders
pub mod Bags
pub mod Answers
pub mod Meaning
pub mod Streams
pub mod Maybe
